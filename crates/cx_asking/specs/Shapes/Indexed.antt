-- How what was seen is found by its paths.
use Rattle.std.specs.Prelude.{◌≡◌, ℕ, ◌+◌, List, [], ◌∷◌, ◌++◌, Option, Result, Ok, Err, if◌then◌else◌, length, map}
use Rattle.cx_base.specs.declared.answers.Answer.{Answer}
use Rattle.cx_base.specs.declared.answers.SeenEntry.{SeenEntry}
use Rattle.cx_lex.specs.Lexing.{Lexes, Outcome, lexed, piece_limit}
use Rattle.cx_table.specs.NameTable.{Entries, names_of}
use Rattle.cx_shelf.specs.declared.shelf.Shelved.{Shelved}
use Rattle.cx_asking.specs.Answers.{AreShort, kept}
use Rattle.cx_shelf.specs.declared.shelf.Shelf.{Shelf}
use Rattle.cx_asking.specs.declared.text_fault.TextFault.{TextFault}
use Rattle.cx_asking.specs.Asking.{AreFaults, AreShelved, IsTextFault}
use Rattle.cx_asking.specs.Shapes.Asks.{Gathered}
use Rattle.cx_asking.specs.Wishes.{is_folder}

abbrev pub paths_seen : List SeenEntry → List (List ℕ)
paths_seen seen = map (λ e. e.path) seen

-- for each folder how many entries there are up to it, where so many stand before
unfoldable pub folder_ends : ℕ → List SeenEntry → List ℕ
folder_ends n [] = []
folder_ends n (e ∷ seen) =
    if is_folder e.answer then (n + 1) ∷ folder_ends (n + 1) seen else folder_ends (n + 1) seen

-- the paths stand beside what they lead to, in order, and it is known where the folders are
pub record IsIndexed (seen : List SeenEntry) (all : Entries (Unit {0})) (ends : List ℕ)
    : Type 0 where
  pub paths : names_of all ≡ paths_seen seen
  pub folders : ends ≡ folder_ends 0 seen

-- the files of what was seen are on the shelf, or it is told why not, and their bytes are counted
pub record IsGathered (seen : List SeenEntry) (shelf : List Shelved)
    (faults : List (Option TextFault)) (bytes : ℕ) : Type 0 where
  pub faulty : AreFaults 0 seen faults
  pub kept : bytes ≡ kept seen
  pub files : AreShelved 0 seen shelf
  pub short : AreShort seen

-- a path was seen, with its answer, and its file came to the shelf where it has pieces
pub record Adds (before : Gathered) (path : List ℕ) (answer : Answer) (after : Gathered)
    : Type 0 where
  pub new : List Shelved
  pub seen : after.seen ≡ before.seen ++ record { path = path; answer = answer } ∷ []
  pub shelf : after.shelf ≡ before.shelf ++ new
  pub is : AreShelved (length before.seen) (record { path = path; answer = answer } ∷ []) new

-- a file for the shelf, where its entry has that number, or why its text has no pieces
abbrev pub IsShelved : ℕ → List ℕ → List ℕ → Result Shelved TextFault → Type 0
IsShelved n path bytes (Err fault) =
    (outcome : Outcome) × IsTextFault outcome fault × Lexes n piece_limit bytes outcome
IsShelved n path bytes (Ok f) =
    (f.path ≡ path) × Lexes n piece_limit bytes (lexed f.lexed.pieces f.lexed.comments)

-- the shelf with the file of the entry of that number, where it has pieces
pub record Shelves (n : ℕ) (before after : List Shelved) (entry : SeenEntry) : Type 0 where
  pub new : List Shelved
  pub shelf : after ≡ before ++ new
  pub is : AreShelved n (entry ∷ []) new

-- what an entry of that number puts on the shelf, or why it puts nothing there
abbrev pub Puts : ℕ → List Shelved → SeenEntry → Shelf → Option TextFault → Type 0
Puts n before entry shelf fault =
    Shelves n before shelf.files entry × AreFaults n (entry ∷ []) (fault ∷ [])
