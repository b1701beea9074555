-- Which paths are asked, and in which order.
use Rattle.std.specs.Prelude.{◌≡◌, ℕ, ◌+◌, List, [], ◌∷◌, ◌++◌, Bool, true, false, ◌&&◌, not, Option, Some, None, if◌then◌else◌, is_some, length, nat_lt, bytes_eq, IsFalse}
use Rattle.std.specs.List.{find}
use Rattle.cx_base.specs.declared.answers.Answer.{Answer}
use Rattle.cx_base.specs.declared.answers.Answer.TheVariants.{Present}
use Rattle.cx_base.specs.declared.answers.SeenEntry.{SeenEntry}
use Rattle.cx_lex.specs.declared.comment.Comment.{Comment}
use Rattle.cx_lex.specs.declared.piece.Piece.{Piece}
use Rattle.cx_lex.specs.Lexing.{Lexes, Outcome, lexed, piece_limit, too_long, unclosed_comment}
use Rattle.cx_shelf.specs.declared.shelf.Shelved.{Shelved}
use Rattle.cx_shelf.specs.Shelves.{pieces_in}
use Rattle.cx_options.specs.declared.answer.Options.{Options}
use Rattle.cx_asking.specs.declared.limits.Limits.{Limits}
use Rattle.cx_asking.specs.declared.purpose.Purpose.{Purpose}
use Rattle.cx_asking.specs.declared.text_fault.TextFault.{TextFault}
use Rattle.cx_asking.specs.declared.text_fault.TextFault.TheVariants.{TooLong, UnclosedComment}
use Rattle.cx_asking.specs.declared.purpose.Purpose.TheVariants as purpose
use Rattle.cx_asking.specs.Wishes.{Wish, folders_in, has_refused, list_wishes, look_up, source_wishes, units_of, wish}
use Rattle.cx_asking.specs.Includes.{Texts, all_include_wishes}

-- All that is wanted by what was seen: the lists, and where none is refused the paths that are
-- given with what is below them, and then the includes of the units' files.
unfoldable pub wanted : Limits → Texts → Options → List SeenEntry → List Wish
wanted limits texts options seen =
    list_wishes seen options.lists
    ++ (if has_refused seen options.lists then []
    else source_wishes limits seen options
    ++ all_include_wishes texts options.folders seen (units_of limits seen options))

-- subfolders are asked as long as there are not so many folders; other paths always
abbrev pub may_be_asked : Limits → List SeenEntry → Purpose → Bool
may_be_asked limits seen purpose.Folder = nat_lt (length (folders_in seen)) limits.folders
may_be_asked limits seen _ = true

-- a wish is open where its path was not asked, and may be
unfoldable pub is_open : Limits → List SeenEntry → Wish → Bool
is_open limits seen w =
    not (is_some (look_up seen w.path)) && may_be_asked limits seen w.purpose

-- the next path to ask: the first that is wanted and open
unfoldable pub next : Limits → Texts → Options → List SeenEntry → Option Wish
next limits texts options seen = find (is_open limits seen) (wanted limits texts options seen)

-- each entry has the path of what is next after the entries before it, and is asked for that
-- purpose
unfoldable pub IsAskedAfter
    : Limits → Texts → Options → List SeenEntry → List SeenEntry → List Purpose → Type 0
IsAskedAfter limits texts options before [] [] = Unit {0}
IsAskedAfter limits texts options before [] (p ∷ ps) = ⊥
IsAskedAfter limits texts options before (e ∷ seen) [] = ⊥
IsAskedAfter limits texts options before (e ∷ seen) (p ∷ ps) =
    (next limits texts options before ≡ Some (wish p e.path))
    × IsAskedAfter limits texts options (before ++ e ∷ []) seen ps

-- the pieces that a file has on the shelf, by its path; a path that is not there has none
abbrev pub text_of : List Shelved → Texts
text_of files path = pieces_in (find (λ f. bytes_eq f.path path) files)

-- a text has a fault
abbrev pub IsFault : Outcome → Type 0
IsFault (lexed pieces comments) = ⊥
IsFault (unclosed_comment at) = Unit {0}
IsFault (too_long at) = Unit {0}

-- a text has no pieces, for this reason
abbrev pub IsTextFault : Outcome → TextFault → Type 0
IsTextFault (lexed pieces comments) fault = ⊥
IsTextFault (unclosed_comment at) (UnclosedComment place) = place ≡ at
IsTextFault (unclosed_comment at) (TooLong place) = ⊥
IsTextFault (too_long at) (TooLong place) = place ≡ at
IsTextFault (too_long at) (UnclosedComment place) = ⊥

abbrev pub is_present : Answer → Bool
is_present (Present bytes) = true
is_present _ = false

-- The files that have pieces, in the order in which they were asked, where entries have numbers
-- from one on. The places of a file have the number of its entry. A file that has a fault is not
-- among them.
pub data AreShelved : ℕ → List SeenEntry → List Shelved → Type 0 where
  none : (n : ℕ) → AreShelved n [] []
  shelved : (n : ℕ) (path bytes : List ℕ) (f : Shelved) (seen : List SeenEntry)
      (files : List Shelved) → f.path ≡ path
      → Lexes n piece_limit bytes (lexed f.lexed.pieces f.lexed.comments)
      → AreShelved (n + 1) seen files
      → AreShelved n (record { path = path; answer = Present bytes } ∷ seen) (f ∷ files)
  faulty : (n : ℕ) (path bytes : List ℕ) (outcome : Outcome) (seen : List SeenEntry)
      (files : List Shelved) → IsFault outcome → Lexes n piece_limit bytes outcome
      → AreShelved (n + 1) seen files
      → AreShelved n (record { path = path; answer = Present bytes } ∷ seen) files
  other : (n : ℕ) (e : SeenEntry) (seen : List SeenEntry) (files : List Shelved)
      → IsFalse (is_present e.answer) → AreShelved (n + 1) seen files
      → AreShelved n (e ∷ seen) files

-- For each entry, where entries have numbers from one on, why the text of its file has no pieces:
-- nothing where it has, and where there is no file.
pub data AreFaults : ℕ → List SeenEntry → List (Option TextFault) → Type 0 where
  nothing : (n : ℕ) → AreFaults n [] []
  sound : (n : ℕ) (path bytes : List ℕ) (pieces : List Piece) (comments : List Comment)
      (seen : List SeenEntry) (faults : List (Option TextFault))
      → Lexes n piece_limit bytes (lexed pieces comments) → AreFaults (n + 1) seen faults
      → AreFaults n (record { path = path; answer = Present bytes } ∷ seen) (None ∷ faults)
  unsound : (n : ℕ) (path bytes : List ℕ) (outcome : Outcome) (fault : TextFault)
      (seen : List SeenEntry) (faults : List (Option TextFault)) → IsTextFault outcome fault
      → Lexes n piece_limit bytes outcome → AreFaults (n + 1) seen faults
      → AreFaults n (record { path = path; answer = Present bytes } ∷ seen) (Some fault ∷ faults)
  no_file : (n : ℕ) (e : SeenEntry) (seen : List SeenEntry) (faults : List (Option TextFault))
      → IsFalse (is_present e.answer) → AreFaults (n + 1) seen faults
      → AreFaults n (e ∷ seen) (None ∷ faults)

-- All that the options want, in order, up to where nothing more is wanted; with the files that have
-- pieces.
pub record IsWholeAsking (limits : Limits) (options : Options) (seen : List SeenEntry)
    (shelf : List Shelved) : Type 0 where
  pub shelved : AreShelved 0 seen shelf
  pub purposes : List Purpose
  pub asked : IsAskedAfter limits (text_of shelf) options [] seen purposes
  pub done : next limits (text_of shelf) options seen ≡ None
