use Rattle.cx_pre.proofs.OneLaws.{comes_same}
use Rattle.cx_pre.proofs.ValueLaws.{one_reading}
use Rattle.cx_pre.proofs.laws.one_outcome.Goals as goal

pub returns : goal.returns
returns c = λ shelf depth file s outcome other a b. comes_same one_reading a b
