-- Bracket partners.
use Rattle.std.specs.Prelude.{◌≡◌, List, All, None}
use Rattle.cx_tokens.specs.Nodes.{TokenNode}

-- no node has a partner
abbrev pub HasNoPartners : List TokenNode → Type 0
HasNoPartners nodes = All (λ x. x.partner ≡ None) nodes
