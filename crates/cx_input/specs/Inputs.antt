-- What matters of a ground to what is told of one unit.
use Rattle.std.specs.Prelude.{◌≡◌, ℕ, List, All, Bool, ◌&&◌, not, Option, None, is_some, bytes_eq, get_or}
use Rattle.std.specs.List.{list_any}
use Rattle.cx_lex.specs.declared.piece.Piece.{Piece}
use Rattle.cx_asking.specs.declared.text_fault.TextFault.{TextFault}
use Rattle.cx_asking.specs.Asking.{is_present, text_of}
use Rattle.cx_asking.specs.Includes.{include_wishes}
use Rattle.cx_asking.specs.Wishes.{Wish, answer_in}
use Rattle.cx_shelf.specs.declared.shelf.Shelf.{Shelf}
use Rattle.cx_unit.specs.Closures.{number_in}
use Rattle.cx_unit.specs.Units.{Ground, unit_files}

-- why the text of the file with a path has no pieces
abbrev pub fault_in : Ground → List ℕ → Option TextFault
fault_in g path = get_or g.faults (number_in g.seen path) None

-- the pieces of the file with a path; none where it is not on the shelf
abbrev pub pieces_at : Ground → List ℕ → List Piece
pieces_at g path = text_of g.shelf.files path

-- a file with this path is on a shelf
abbrev pub is_shelved : Shelf → List ℕ → Bool
is_shelved shelf path = list_any (λ f. bytes_eq f.path path) shelf.files

-- a file was answered at a path, and its text has pieces
abbrev pub has_pieces : Ground → List ℕ → Bool
has_pieces g path = is_present (answer_in g.seen path) && not (is_some (fault_in g path))

-- On the shelf are the files that were answered, but those of which the text has no pieces.
abbrev pub IsShelfOfAnswers : Ground → Type 0
IsShelfOfAnswers g = (path : List ℕ) → is_shelved g.shelf path ≡ has_pieces g path

-- A file is the same in two grounds. Places in findings have the numbers of answers.
pub record IsSameFile (g h : Ground) (path : List ℕ) : Type 0 where
  pub answer : answer_in g.seen path ≡ answer_in h.seen path
  pub number : number_in g.seen path ≡ number_in h.seen path
  pub fault : fault_in g path ≡ fault_in h path
  pub pieces : pieces_at g path ≡ pieces_at h path

-- the paths that are tried for the includes of a file, each up to where something stands
abbrev pub wishes_in : Ground → List ℕ → List Wish
wishes_in g file = include_wishes (text_of g.shelf.files) g.shelf.folders g.seen file

-- at each of the paths that are tried for the includes of a file two grounds have the same answer
abbrev pub IncludesAlike : Ground → Ground → List ℕ → Type 0
IncludesAlike g h file =
    All (λ w. answer_in g.seen w.path ≡ answer_in h.seen w.path) (wishes_in g file)

-- Two grounds have the same limits, words, macros and folders, and for the files of a unit and for
-- what is tried for their includes the same answers. What else was asked may differ.
pub record IsSameInput (g h : Ground) (path : List ℕ) : Type 0 where
  pub limits : g.limits ≡ h.limits
  pub options : g.options ≡ h.options
  pub macros : g.macros ≡ h.macros
  pub folders : g.shelf.folders ≡ h.shelf.folders
  pub files : All (IsSameFile g h) (unit_files g path)
  pub includes : All (IncludesAlike g h) (unit_files g path)
