use Rattle.cx_pre.proofs.OneLaws as laws
use Rattle.cx_pre.proofs.StartLaws.{one_start}
use Rattle.cx_pre.proofs.ValueLaws.{one_reading}
use Rattle.cx_pre.proofs.laws.one_answer.Goals as goal

pub returns : goal.returns
returns c = λ shelf unit config some other a b. laws.one_answer one_reading one_start shelf unit config some other a b
