-- How far the lists were found for which the lines of a file ask.
use Rattle.std.specs.Prelude.{◌≡◌, ℕ, List, [], Option, map}
use Rattle.cx_table.specs.NameTable.{Entries}
use Rattle.cx_lex.specs.declared.piece.Piece.{Piece}
use Rattle.cx_lines.specs.Lines.{lines_of}
use Rattle.cx_configs.specs.Questions.{Group, Name, asked_lists}
use Rattle.cx_configs.specs.Shapes.Groups.{NumberedGroup, StandFor, open_groups}
use Rattle.cx_configs.specs.Shapes.Lists.{with_lists}
use Rattle.cx_configs.specs.Shapes.Sets.{with_names}

-- the lists for which lines ask that stand in these groups, of names that are not settled
abbrev pub lists_in : Entries (Unit {0}) → List Group → List Piece → List (List Name)
lists_in settled groups pieces = map (with_names settled []) (asked_lists groups (lines_of pieces))

-- Behind the lines before the rest these groups are open, and these lists were found: with those of
-- the rest they are the ones that all lines add.
pub record Asks (most : Option ℕ) (settled : Entries (Unit {0})) (all rest : List Piece)
    (groups : List NumberedGroup) (before lists : List (List Name)) : Type 0 where
  pub within : List Group
  pub stand : StandFor lists groups (open_groups settled within)
  pub found : with_lists most lists (lists_in settled within rest)
      ≡ with_lists most before (lists_in settled [] all)
