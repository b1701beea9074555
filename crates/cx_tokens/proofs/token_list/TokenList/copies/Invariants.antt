use Rattle.std.proofs.Common.{◌≡◌, ◌++◌, IfSome, IsTrue, length}
use Rattle.cx_tokens.specs.Nodes.{is_live, tokens}
use Rattle.cx_tokens.specs.Shapes.Links.{rest_from}
use Rattle.cx_tokens.proofs.token_list.TokenList.copies.Given as goal

abbrev pub invariant-loop-at : goal.invariant-loop-at
invariant-loop-at l =
    (l.made.items ++ tokens (rest_from l.at l.self.nodes) ≡ tokens l.self.nodes) × IfSome l.at (λ n. IsTrue (is_live n l.self.nodes))

abbrev pub decreases-loop-at : goal.decreases-loop-at
decreases-loop-at l = length (rest_from l.at l.self.nodes)
