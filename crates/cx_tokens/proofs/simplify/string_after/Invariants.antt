use Rattle.std.proofs.Common.{length}
use Rattle.cx_tokens.specs.Shapes.Links.{rest_from}
use Rattle.cx_tokens.specs.Shapes.Sweeping.{IsSkipped}
use Rattle.cx_tokens.proofs.simplify.string_after.Given as goal

abbrev pub invariant-loop-next : goal.invariant-loop-next
invariant-loop-next l = IsSkipped l.list.nodes l.fn.at l.next

abbrev pub decreases-loop-next : goal.decreases-loop-next
decreases-loop-next l = length (rest_from l.next l.list.nodes)
