-- The folders that the paths of stored files make, and their members.
use Rattle.std.specs.Prelude.{◌≡◌, ℕ, Bool, ◌||◌, ◌==◌, if◌then◌else◌, List, [], ◌∷◌, ◌↔◌, length, drop, Option, Some, None, option_map, option_and_then, is_some, bytes_eq, nat_eq, codes}
use Rattle.std.specs.List.{list_any, starts_with, before_first, Any, Contains}
use Rattle.std.specs.Ordering.{ordering_then, nat_cmp, bool_cmp}
use Rattle.std.specs.Cmp.Lexicographic.{slice_cmp}
use Rattle.std.specs.declared.cmp.Ordering.{Ordering}
use Rattle.std.specs.declared.cmp.Ordering.TheVariants.{Less}
use Rattle.cx_base.specs.declared.answers.Entry.{Entry}
use Rattle.cx_base.specs.declared.answers.Stored.{Stored}

abbrev pub is_slash : ℕ → Bool
is_slash b = b == 47

-- the rest of a text after a front, where the text begins with it
abbrev pub rest_after : List ℕ → List ℕ → Option (List ℕ)
rest_after front text =
    if starts_with nat_eq text front then Some (drop (length front) text) else None

-- a path outside the present folder: one that begins with `/` or with `../`
abbrev pub is_elsewhere : List ℕ → Bool
is_elsewhere path = starts_with nat_eq path (codes "/") || starts_with nat_eq path (codes "../")

-- a path as it is seen from inside a folder, where it is in there
abbrev pub inside : List ℕ → List ℕ → Option (List ℕ)
inside folder path =
    if bytes_eq folder (codes ".") then (if is_elsewhere path then None else Some path)
    else option_and_then (rest_after (codes "/")) (rest_after folder path)

-- the first component of a path, which is a folder where more follow
abbrev pub first_entry : List ℕ → Entry
first_entry path = record { name = before_first is_slash path; folder = list_any is_slash path }

-- the member of a folder to which a path leads
abbrev pub entry_at : List ℕ → List ℕ → Option Entry
entry_at folder path = option_map first_entry (inside folder path)

-- `.` is a folder, and so is each path that, with `/` after it, begins the path of a file
abbrev pub is_folder : List Stored → List ℕ → Bool
is_folder stored path =
    bytes_eq path (codes ".") || list_any (λ file. is_some (inside path file.path)) stored

-- some file's path leads to this member of a folder
abbrev pub LeadsTo : List Stored → List ℕ → Entry → Type 0
LeadsTo stored folder entry = Any (λ file. entry_at folder file.path ≡ Some entry) stored

-- the members of a folder are those to which the paths of files lead
abbrev pub AreMembers : List Stored → List ℕ → List Entry → Type 0
AreMembers stored folder entries =
    (entry : Entry) → Contains entries entry ↔ LeadsTo stored folder entry

-- entries go by the bytes of their names, and at one name a file stands before a folder
abbrev pub entry_cmp : Entry → Entry → Ordering
entry_cmp one other =
    ordering_then (slice_cmp nat_cmp one.name other.name) (bool_cmp one.folder other.folder)

-- each entry stands before the next, so that each is there once
abbrev pub IsOrdered : List Entry → Type 0
IsOrdered [] = Unit {0}
IsOrdered (first ∷ []) = Unit {0}
IsOrdered (first ∷ second ∷ rest) = (entry_cmp first second ≡ Less) × IsOrdered (second ∷ rest)
