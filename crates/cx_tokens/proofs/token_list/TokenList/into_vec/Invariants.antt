use Rattle.std.proofs.Common.{◌≡◌, ◌++◌, length}
use Rattle.cx_tokens.specs.Nodes.{tokens}
use Rattle.cx_tokens.proofs.token_list.TokenList.into_vec.Given as goal

abbrev pub invariant-loop-node : goal.invariant-loop-node
invariant-loop-node l = l.taken.items ++ tokens l.list.nodes ≡ tokens l.fn.self.nodes

abbrev pub decreases-loop-node : goal.decreases-loop-node
decreases-loop-node l = length l.list.nodes
