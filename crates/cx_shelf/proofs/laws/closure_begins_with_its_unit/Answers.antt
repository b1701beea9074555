use Rattle.cx_shelf.proofs.ReachLaws.{first_is_unit}
use Rattle.cx_shelf.proofs.laws.closure_begins_with_its_unit.Goals as goal

pub returns : goal.returns
returns c = λ shelf unit. first_is_unit shelf unit
