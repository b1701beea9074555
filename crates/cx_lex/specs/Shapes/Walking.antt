-- How the code goes over the bytes of a source: joined to `characters` of Lines by
-- `characters_deleted` and `characters_kept` of proofs/Walk.
use Rattle.std.specs.Prelude.{◌≡◌, ℕ, ◌<◌, List, [], ◌∷◌, true, false, length}
use Rattle.cx_base.specs.declared.place.Place.{Place}
use Rattle.cx_lex.specs.Lines.{begins_with_newline, characters, characters_after_newline}

-- what stands after the newline in front of a text
pub record AfterNewline (text rest : List ℕ) : Type 0 where
  pub newline : begins_with_newline text ≡ true
  pub characters_left : (at : Place) → characters_after_newline at text ≡ characters at rest
  pub shorter : length rest < length text

-- what stands in front of a text is no deleted newline
abbrev pub IsKept : List ℕ → Type 0
IsKept [] = Unit {0}
IsKept (b ∷ bs) = b ≡ 92 → begins_with_newline bs ≡ false
