use Rattle.cx_reading.proofs.AnswerLaws.{one_of_law}
use Rattle.cx_reading.proofs.TypeLaws.{type_law}
use Rattle.cx_reading.proofs.laws.one_type.Goals as goal

pub returns : goal.returns
returns c = one_of_law type_law
