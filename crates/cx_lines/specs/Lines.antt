-- The lines of a source, as lists of its pieces: a directive is one of them (C11 6.10, paragraph 2).
use Rattle.std.specs.Prelude.{◌≡◌, List, [], ◌∷◌, All, Bool, true, not, if◌then◌else◌}
use Rattle.std.specs.List.{list_all}
use Rattle.cx_lex.specs.declared.piece.Piece.{Piece}

-- lines with a piece before them, which stands on a line with the first of them, unless a line
-- begins there
abbrev pub with_piece : Piece → List (List Piece) → List (List Piece)
with_piece p [] = (p ∷ []) ∷ []
with_piece p ([] ∷ lines) = (p ∷ []) ∷ lines
with_piece p ((q ∷ line) ∷ lines) =
    if q.first_on_line then (p ∷ []) ∷ (q ∷ line) ∷ lines else (p ∷ q ∷ line) ∷ lines

-- the lines of pieces
unfoldable pub lines_of : List Piece → List (List Piece)
lines_of [] = []
lines_of (p ∷ ps) = with_piece p (lines_of ps)

-- no piece is the first on its line
abbrev pub none_begins : List Piece → Bool
none_begins pieces = list_all (λ p. not p.first_on_line) pieces

-- a line has a piece, and none after that is the first on its line
abbrev pub IsLine : List Piece → Type 0
IsLine [] = ⊥
IsLine (p ∷ ps) = none_begins ps ≡ true

-- a line begins with a piece that is the first on it
abbrev pub Begins : List Piece → Type 0
Begins [] = ⊥
Begins (p ∷ ps) = p.first_on_line ≡ true

-- Lines, of which all but the first begin with a piece that is the first on its line.
abbrev pub AreLines : List (List Piece) → Type 0
AreLines [] = Unit {0}
AreLines (line ∷ lines) = IsLine line × All IsLine lines × All Begins lines
