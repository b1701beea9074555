-- Tokens of a list from a node, all or so many: what a `Walk` of the code reads. Joined to `tokens`
-- of cx_tokens (law `walk_ahead`).
use Rattle.std.specs.Prelude.{ℕ, List, [], Option, Some, None, take}
use Rattle.cx_tokens.specs.declared.token.Token.{Token}
use Rattle.cx_tokens.specs.Nodes.{TokenNode, nodes_from, tokens}

abbrev pub nodes_at : Option ℕ → List TokenNode → List TokenNode
nodes_at None nodes = []
nodes_at (Some n) nodes = nodes_from n nodes

-- all, or so many
abbrev pub at_most : Option ℕ → List Token → List Token
at_most None ts = ts
at_most (Some n) ts = take n ts

abbrev pub walked : Option ℕ → Option ℕ → List TokenNode → List Token
walked left at nodes = at_most left (tokens (nodes_at at nodes))
