use Rattle.std.proofs.Common.{◌≡◌, ◌++◌, IfSome, IsTrue, length, map}
use Rattle.cx_tokens.specs.Nodes.{is_live, tokens}
use Rattle.cx_tokens.specs.Shapes.Links.{rest_from}
use Rattle.cx_terminals.proofs.walk.tokens_in.Given as goal

abbrev pub invariant-loop-at : goal.invariant-loop-at
invariant-loop-at l =
    (map (λ t. t.now) l.found.items ++ tokens (rest_from l.at l.list.nodes) ≡ tokens l.list.nodes)
    × IfSome l.at (λ n. IsTrue (is_live n l.list.nodes))

abbrev pub decreases-loop-at : goal.decreases-loop-at
decreases-loop-at l = length (rest_from l.at l.list.nodes)
