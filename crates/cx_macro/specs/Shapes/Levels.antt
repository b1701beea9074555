-- A list of tokens of which a front is done, by its nodes.
use Rattle.std.specs.Prelude.{ℕ, List, [], Option, Some, None}
use Rattle.cx_tokens.specs.declared.token.Token.{Token}
use Rattle.cx_tokens.specs.Nodes.{TokenNode, nodes_after, tokens, nodes_to}

-- The tokens done, and those ahead.
pub record Standing : Type 0 where
  pub done : List Token
  pub ahead : List Token

-- the nodes up to the last that is done, and those behind it
abbrev pub nodes_done : Option ℕ → List TokenNode → List TokenNode
nodes_done None nodes = []
nodes_done (Some n) nodes = nodes_to n nodes

abbrev pub nodes_ahead : Option ℕ → List TokenNode → List TokenNode
nodes_ahead None nodes = nodes
nodes_ahead (Some n) nodes = nodes_after n nodes

abbrev pub standing_of : Option ℕ → List TokenNode → Standing
standing_of last nodes =
    record { done = tokens (nodes_done last nodes); ahead = tokens (nodes_ahead last nodes) }
