-- What the answers say of the files.
use Rattle.std.specs.Prelude.{◌≡◌, ℕ, ◌+◌, ◌<◌, ◌≤◌, List, [], ◌∷◌, ◌++◌, length, Some, None, All, IsSomeAnd, IsTrue, IsFalse}
use Rattle.cx_base.specs.declared.answers.Answer.{Answer}
use Rattle.cx_base.specs.declared.answers.Answer.TheVariants.{Present, Absent, Folder, Unreadable, TooLarge}
use Rattle.cx_base.specs.declared.answers.SeenEntry.{SeenEntry}
use Rattle.cx_base.specs.declared.answers.Stored.{Stored}
use Rattle.cx_base.specs.Folders.{is_folder, AreMembers}
use Rattle.cx_base.specs.Outside.{file_at}
use Rattle.cx_lex.specs.Lines.{place_limit}
use Rattle.cx_asking.specs.declared.limits.Limits.{Limits}
use Rattle.cx_asking.specs.declared.purpose.Purpose.{Purpose}
use Rattle.cx_asking.specs.declared.purpose.Purpose.TheVariants as purpose

-- the bytes that an answer keeps
abbrev pub bytes_kept : Answer → ℕ
bytes_kept (Present bytes) = length bytes
bytes_kept _ = 0

-- the bytes that are kept of all that was seen
unfoldable pub kept : List SeenEntry → ℕ
kept [] = 0
kept (e ∷ seen) = bytes_kept e.answer + kept seen

-- a file of so many bytes can be kept beside others: it is shorter than the limit of one file, and
-- takes all of them to no more than their limit
pub record IsKept (limits : Limits) (others bytes : ℕ) : Type 0 where
  pub short : bytes < limits.read
  pub fits : others + bytes ≤ limits.kept

-- nothing is there: no file, and where a folder is wanted none of those
abbrev pub IsNothing : List Stored → List ℕ → Purpose → Type 0
IsNothing stored path purpose.Given =
    IsFalse (is_folder stored path) × (file_at stored path ≡ None)
IsNothing stored path purpose.File = file_at stored path ≡ None
IsNothing stored path purpose.Folder = IsFalse (is_folder stored path)

-- An answer is what these files hold at a path, where so many bytes are kept of others. A file that
-- cannot be kept is too large, and whether a path can be read is not said of the files.
abbrev pub Holds : Limits → List Stored → ℕ → Purpose → List ℕ → Answer → Type 0
Holds limits stored others purpose path (Present bytes) =
    (file_at stored path ≡ Some bytes) × IsKept limits others (length bytes)
Holds limits stored others purpose path Absent = IsNothing stored path purpose
Holds limits stored others purpose path (Folder entries) =
    IsTrue (is_folder stored path) × AreMembers stored path entries
Holds limits stored others purpose path Unreadable = Unit {0}
Holds limits stored others purpose path TooLarge =
    IsSomeAnd (file_at stored path) (λ bytes. IsKept limits others (length bytes) → ⊥)

-- a file that is given can be kept, whether files tell their contents or not
abbrev pub IsBelow : Limits → ℕ → Answer → Type 0
IsBelow limits others (Present bytes) = IsKept limits others (length bytes)
IsBelow limits others _ = Unit {0}

-- each entry that was seen after others is what the files hold
unfoldable pub AllHold
    : Limits → List Stored → List SeenEntry → List SeenEntry → List Purpose → Type 0
AllHold limits stored before [] [] = Unit {0}
AllHold limits stored before [] (p ∷ ps) = ⊥
AllHold limits stored before (e ∷ seen) [] = ⊥
AllHold limits stored before (e ∷ seen) (p ∷ ps) =
    Holds limits stored (kept before) p e.path e.answer
    × AllHold limits stored (before ++ e ∷ []) seen ps

unfoldable pub AllBelow : Limits → List SeenEntry → List SeenEntry → Type 0
AllBelow limits before [] = Unit {0}
AllBelow limits before (e ∷ seen) =
    IsBelow limits (kept before) e.answer × AllBelow limits (before ++ e ∷ []) seen

-- a file that is given has bytes that can be counted by 32 bits
abbrev pub IsShort : Answer → Type 0
IsShort (Present bytes) = length bytes < place_limit
IsShort _ = Unit {0}

abbrev pub AreShort : List SeenEntry → Type 0
AreShort seen = All (λ e. IsShort e.answer) seen
