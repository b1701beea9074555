use Rattle.cx_first.proofs.RunLaws.{run_goes}
use Rattle.cx_first.proofs.laws.runs_go_on.Goals as goal

pub returns : goal.returns
returns c = run_goes
