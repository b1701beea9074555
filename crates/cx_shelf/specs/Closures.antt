-- The files that a unit is made of (C11 6.10.2): its own, and those that includes lead to.
use Rattle.std.specs.Prelude.{ℕ, zero, suc, List, [], ◌∷◌, ◌++◌, Option, None, if◌then◌else◌, nat_eq, length, fold, filter_map, flat_map, option_and_then}
use Rattle.std.specs.List.{list_any}
use Rattle.cx_lex.specs.declared.piece.Piece.{Piece}
use Rattle.cx_lines.specs.Kinds.{kind_of}
use Rattle.cx_lines.specs.Lines.{lines_of}
use Rattle.cx_lines.specs.declared.kind.LineKind.{LineKind}
use Rattle.cx_lines.specs.declared.kind.LineKind.TheVariants.{Include}
use Rattle.cx_directive.specs.Operands.{operands, target_of}
use Rattle.cx_shelf.specs.declared.shelf.Shelf.{Shelf}
use Rattle.cx_shelf.specs.Searches.{found}
use Rattle.cx_shelf.specs.Shelves.{path_of, pieces_of}

-- the file that a line of a kind leads to
abbrev pub led_to_by : Shelf → List ℕ → LineKind → List Piece → Option ℕ
led_to_by shelf includer Include line =
    option_and_then (found shelf includer) (target_of (operands line))
led_to_by shelf includer _ line = None

-- the file that a line leads to, where it is a directive `include`
abbrev pub led_to : Shelf → List ℕ → List Piece → Option ℕ
led_to shelf includer line = led_to_by shelf includer (kind_of line) line

-- the files that a file includes, in order, whatever groups its lines stand in
unfoldable pub included : Shelf → ℕ → List ℕ
included shelf file =
    filter_map (led_to shelf (path_of shelf file)) (lines_of (pieces_of shelf file))

-- files with one more, unless it is there
abbrev pub with_file : List ℕ → ℕ → List ℕ
with_file files file = if list_any (nat_eq file) files then files else files ++ file ∷ []

-- the unit, and what these files include, each once
abbrev pub with_included : Shelf → ℕ → List ℕ → List ℕ
with_included shelf unit files = fold with_file (unit ∷ []) (flat_map (included shelf) files)

-- the unit, and what at most so many includes lead to, one within another
unfoldable pub reached : Shelf → ℕ → ℕ → List ℕ
reached shelf unit zero = unit ∷ []
reached shelf unit (suc n) = with_included shelf unit (reached shelf unit n)

-- The files of a unit, those first that fewer includes lead to: as many as there are files lead to
-- all of them.
unfoldable pub closure_of : Shelf → ℕ → List ℕ
closure_of shelf unit = reached shelf unit (length shelf.files)
