use Rattle.cx_directive.proofs.DefineLaws.{defined_definition}
use Rattle.cx_directive.proofs.laws.what_is_defined_is_a_definition.Goals as goal

pub returns : goal.returns
returns c = defined_definition
