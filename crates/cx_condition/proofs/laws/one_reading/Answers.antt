use Rattle.cx_condition.specs.Parts.{parts_of}
use Rattle.cx_condition.proofs.SameLaws.{one_reading as law}
use Rattle.cx_condition.proofs.laws.one_reading.Goals as goal

pub returns : goal.returns
returns c = λ tokens t u r s. law (parts_of tokens) t u r s
