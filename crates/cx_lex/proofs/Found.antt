-- What it means that an element was found.
use Rattle.std.proofs.Common.{◌≡◌, ℕ, List, [], ◌∷◌, ◌++◌, codes}
use Rattle.cx_base.specs.declared.place.Place.{Place}
use Rattle.cx_lex.specs.declared.before.Before.{Before}
use Rattle.cx_lex.specs.declared.character.Character.{Character}
use Rattle.cx_lex.specs.Elements.{Element, IsElement, characters_of}
use Rattle.cx_lex.specs.Shapes.Fronts.{Found, found, nothing, open_comment}
use Rattle.cx_lex.specs.Lexing.{place_of}
use Rattle.cx_lex.specs.Lines.{bytes_of}
use Rattle.cx_lex.specs.Elements.{StandsNowhere}

-- an element that stands in front of a text, with its rest
pub record IsFound (before : Before) (cs : List Character) (e : Element) (rest : List Character) : Type 0 where
  pub is_element : IsElement before e rest
  pub whole_text : cs ≡ characters_of e ++ rest
  pub some_text : (c : Character) × (more : List Character) × (characters_of e ≡ c ∷ more)

-- a comment with no end in front of a text
pub record IsOpen (cs : List Character) (place : Place) : Type 0 where
  pub inner : List ℕ
  pub begins : bytes_of cs ≡ codes "/*" ++ inner
  pub no_end : StandsNowhere (codes "*/") inner
  pub at : place ≡ place_of cs

-- what was found stands in front of a text
abbrev pub Is : Before → List Character → Found → Type 0
Is before cs nothing = cs ≡ []
Is before cs (found e rest) = IsFound before cs e rest
Is before cs (open_comment place rest) = IsOpen cs place
