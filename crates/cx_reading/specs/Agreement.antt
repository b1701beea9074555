-- What is to hold of a parser beside its rule.
use Rattle.std.specs.Prelude.{◌≡◌, ◌<◌, List, ◌++◌, map, length, Option, Some, None}
use Rattle.cx_syntax_tree.specs.declared.terminals.Lexeme.{Lexeme}
use Rattle.cx_syntax_tree.specs.Written.{untyped}
use Rattle.cx_reading.specs.Rules.{Relation}
use Rattle.cx_reading.specs.Parsing.{Parser}

-- what the parser reads the rule does, and the other way round where no longer tree of the rule
-- stands there
pub record Law {A : Type 0} (Begins Ends : List Lexeme → Type 0) (p : Parser A) (R : Relation A)
    : Type 0 where
  pub sound : (ts : List Lexeme) (x : A) (rest : List Lexeme) → p ts ≡ Some (x, rest)
      → R ts x rest
  pub complete : (ts : List Lexeme) (x : A) (rest : List Lexeme) → R ts x rest → Ends rest
      → p ts ≡ Some (x, rest)
  -- a tree has a token
  pub shorter : (ts : List Lexeme) (x : A) (rest : List Lexeme) → R ts x rest
      → length rest < length ts
  -- what stands in front
  pub begins : (ts : List Lexeme) (x : A) (rest : List Lexeme) → R ts x rest → Begins ts

-- the same of an item of a row, where `Good` tokens may stand behind one
pub record Items {A : Type 0} (Good : List Lexeme → Type 0) (p : Parser (Option A))
    (R : Relation A) : Type 0 where
  pub sound : (ts : List Lexeme) (x : A) (rest : List Lexeme) → p ts ≡ Some (Some x, rest)
      → R ts x rest
  pub complete : (ts : List Lexeme) (x : A) (rest : List Lexeme) → R ts x rest → Good rest
      → p ts ≡ Some (Some x, rest)
  pub shorter : (ts : List Lexeme) (x : A) (rest : List Lexeme) → R ts x rest
      → length rest < length ts
  pub begins : (ts : List Lexeme) (x : A) (rest : List Lexeme) → R ts x rest → Good ts
  -- an absent item takes nothing
  pub absent : (ts rest : List Lexeme) → p ts ≡ Some (None, rest) → rest ≡ ts

-- The tokens that the rule reads are those of its tree, in order: none is lost, and none is read
-- twice. A type name counts as a name, since a tag or a member may be spelt so (C11 6.2.3).
abbrev pub InOrder : {A : Type 0} → (A → List Lexeme) → Relation A → Type 0
InOrder {A} written R = (ts : List Lexeme) (x : A) (rest : List Lexeme) → R ts x rest
    → map untyped ts ≡ written x ++ map untyped rest
