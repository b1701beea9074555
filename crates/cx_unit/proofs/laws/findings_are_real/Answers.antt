use Rattle.cx_first.proofs.RunLaws.{never_passed}
use Rattle.cx_unit.proofs.laws.findings_are_real.Goals as goal

pub returns : goal.returns
returns c source statement node found at = never_passed source statement node at.cause at.stuck
