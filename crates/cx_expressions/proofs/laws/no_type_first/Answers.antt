use Rattle.cx_expressions.proofs.PublicLaws.{no_type}
use Rattle.cx_expressions.proofs.laws.no_type_first.Goals as goal

pub returns : goal.returns
returns c = no_type
