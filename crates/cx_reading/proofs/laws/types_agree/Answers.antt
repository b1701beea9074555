use Rattle.cx_reading.proofs.TypeLaws.{type_law}
use Rattle.cx_reading.proofs.laws.types_agree.Goals as goal

pub returns : goal.returns
returns c = type_law
