-- Pieces that are cut where a line begins.
use Rattle.std.specs.Prelude.{◌≡◌, ◌⊎◌, ◌<◌, List, [], ◌∷◌, ◌++◌, true, length}
use Rattle.cx_lex.specs.declared.piece.Piece.{Piece}
use Rattle.cx_lines.specs.Kinds.{after_text, front_text}
use Rattle.cx_lines.specs.Lines.{lines_of}

-- no pieces, or the first of them is the first on its line
abbrev pub BeginsLine : List Piece → Type 0
BeginsLine [] = Unit {0}
BeginsLine (p ∷ ps) = p.first_on_line ≡ true

-- IsCut all rest: the rest of pieces, from the first of them on or from where a line begins.
pub record IsCut (all rest : List Piece) : Type 0 where
  pub front : List Piece
  pub whole : all ≡ front ++ rest
  pub begins : (front ≡ []) ⊎ BeginsLine rest

-- IsBehindText all rest: before the rest of pieces there is only text.
pub record IsBehindText (all rest : List Piece) : Type 0 where
  pub cut : IsCut all rest
  pub front : front_text (lines_of all) ≡ lines_of cut.front ++ front_text (lines_of rest)
  pub after : after_text (lines_of all) ≡ after_text (lines_of rest)
  pub moved : (rest ≡ all) ⊎ (length rest < length all)
