use Rattle.cx_first.proofs.RunLaws.{never_passed}
use Rattle.cx_first.proofs.laws.stuck_is_never_passed.Goals as goal

pub returns : goal.returns
returns c = never_passed
