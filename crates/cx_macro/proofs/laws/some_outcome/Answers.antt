use Rattle.cx_macro.proofs.ExistenceLaws.{list_some}
use Rattle.cx_macro.proofs.laws.some_outcome.Goals as goal

pub returns : goal.returns
returns c = list_some
