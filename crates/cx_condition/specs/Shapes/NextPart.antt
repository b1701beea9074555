-- The parts of tokens are found one by one.
use Rattle.std.specs.Prelude.{◌≡◌, List, ◌∷◌, Bool, true, false, Option, Some, None}
use Rattle.cx_tokens.specs.declared.token.Token.{Token}
use Rattle.cx_condition.specs.declared.part.Part.{Part}
use Rattle.cx_condition.specs.Parts.{parts_behind}

-- what the first token adds to the parts of those behind it
abbrev pub NextIs : Bool → Token → List Token → Option Part → Type 0
NextIs prefixed t ts None = parts_behind prefixed (t ∷ ts) ≡ parts_behind true ts
NextIs prefixed t ts (Some p) = parts_behind prefixed (t ∷ ts) ≡ p ∷ parts_behind false ts
