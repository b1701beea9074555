use Rattle.cx_first.proofs.RunLaws.{one_longest}
use Rattle.cx_first.proofs.laws.one_longest_run.Goals as goal

pub returns : goal.returns
returns c = one_longest
