use Rattle.std.proofs.Common.{length}
use Rattle.cx_tokens.specs.Shapes.Links.{rest_from}
use Rattle.cx_tokens.specs.Shapes.Sweeping.{IsSwept}
use Rattle.cx_tokens.proofs.token_list.TokenList.simplify.Given as goal

abbrev pub invariant-loop-at : goal.invariant-loop-at
invariant-loop-at l = IsSwept l.initial.self.nodes l.self.nodes l.at

abbrev pub decreases-loop-at : goal.decreases-loop-at
decreases-loop-at l = length (rest_from l.at l.self.nodes)
