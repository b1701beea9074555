use Rattle.cx_pre.proofs.SomeLaws as laws
use Rattle.cx_pre.proofs.StartLaws.{some_start}
use Rattle.cx_pre.proofs.ValueLaws.{some_value}
use Rattle.cx_pre.proofs.laws.some_answer.Goals as goal

pub returns : goal.returns
returns c = λ shelf unit config. laws.some_answer some_value some_start shelf unit config
