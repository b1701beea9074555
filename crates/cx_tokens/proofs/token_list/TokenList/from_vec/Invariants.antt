use Rattle.std.proofs.Common.{◌≡◌, ◌++◌, All, None, length}
use Rattle.cx_tokens.specs.Nodes.{tokens}
use Rattle.cx_tokens.proofs.token_list.TokenList.from_vec.Given as goal

abbrev pub invariant-loop-token : goal.invariant-loop-token
invariant-loop-token l = (l.left.items ++ tokens l.list.nodes ≡ l.fn.wanted.items) × All (λ x. x.partner ≡ None) l.list.nodes

abbrev pub decreases-loop-token : goal.decreases-loop-token
decreases-loop-token l = length l.left.items
