use Rattle.cx_condition.proofs.PartLaws.{parts_done}
use Rattle.cx_condition.proofs.part.parts_of.Goals as goal

pub returns : goal.returns
returns c = parts_done _ _ c.loop-token.prefixed c.loop-token.rest.now c.in_default.ensures c.loop-token.invariant
