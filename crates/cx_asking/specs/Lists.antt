-- The paths that a file list names.
use Rattle.std.specs.Prelude.{ℕ, ◌+◌, List, [], ◌∷◌, Bool, not, Option, None, Some, if◌then◌else◌, is_some, map, filter, bytes_eq, option_map}
use Rattle.std.specs.Str.{is_utf8}
use Rattle.bstr.specs.Text.{without_terminator, lines_of as lines_with_ends}
use Rattle.cx_base.specs.declared.answers.Answer.{Answer}
use Rattle.cx_base.specs.declared.answers.Answer.TheVariants.{Present, Absent, Folder, Unreadable, TooLarge}
use Rattle.cx_asking.specs.declared.list_fault.FileFault.{FileFault}
use Rattle.cx_asking.specs.declared.list_fault.FileFault.TheVariants as fault

-- The lines of a list. Each ends at a newline, which is the byte 10, or 13 and then 10, or at the
-- end of the file; a 13 that stands otherwise is kept.
abbrev pub lines : List ℕ → List (List ℕ)
lines bytes = map without_terminator (lines_with_ends bytes)

-- each line of a file list is a path as it stands, and those that are empty are passed over
abbrev pub paths_in : List ℕ → List (List ℕ)
paths_in bytes = filter (λ line. not (bytes_eq line [])) (lines bytes)

-- the number of the first line that is not UTF-8, where the lines are counted from a number on
unfoldable pub bad_line : ℕ → List (List ℕ) → Option ℕ
bad_line n [] = None
bad_line n (line ∷ lines) = if is_utf8 line then bad_line (n + 1) lines else Some n

abbrev pub line_fault : ℕ → FileFault
line_fault n = fault.BadLine n

-- Why what a list's path was answered refuses the run. Its lines are counted from 1; a folder is no
-- file.
unfoldable pub fault_of : Answer → Option FileFault
fault_of (Present bytes) = option_map line_fault (bad_line 1 (lines bytes))
fault_of Absent = Some fault.Absent
fault_of (Folder entries) = Some fault.Absent
fault_of Unreadable = Some fault.Unreadable
fault_of TooLarge = Some fault.TooLarge

abbrev pub is_refused : Answer → Bool
is_refused answer = is_some (fault_of answer)

-- the paths that a list names, where it can be read
unfoldable pub paths_of : Answer → List (List ℕ)
paths_of (Present bytes) = paths_in bytes
paths_of _ = []
