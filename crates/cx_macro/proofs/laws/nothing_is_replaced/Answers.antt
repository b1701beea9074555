use Rattle.cx_macro.proofs.BoundLaws.{nothing_replaced}
use Rattle.cx_macro.proofs.laws.nothing_is_replaced.Goals as goal

pub returns : goal.returns
returns c = nothing_replaced
