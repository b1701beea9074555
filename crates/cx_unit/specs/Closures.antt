-- The faults of the files of a unit.
use Rattle.std.specs.Prelude.{ℕ, ◌+◌, ◌-◌, List, [], ◌∷◌, Bool, true, false, Option, Some, None, if◌then◌else◌, bytes_eq, codes, filter, get_or, length, map, nat_le, nat_lt, option_map}
use Rattle.std.specs.List.{position_or_len}
use Rattle.std.specs.Option.{option_or}
use Rattle.cx_base.specs.declared.answers.Answer.{Answer}
use Rattle.cx_base.specs.declared.answers.Answer.TheVariants.{Present, Absent, Folder, Unreadable, TooLarge}
use Rattle.cx_base.specs.declared.answers.SeenEntry.{SeenEntry}
use Rattle.cx_base.specs.declared.finding.Finding.{Finding}
use Rattle.cx_base.specs.declared.place.Place.{Place}
use Rattle.cx_asking.specs.declared.text_fault.TextFault.{TextFault}
use Rattle.cx_asking.specs.Wishes.{answer_in, is_unreadable}
use Rattle.cx_finding.specs.Kinds.{limit_passed, read_fault}
use Rattle.cx_unit.specs.declared.closure_fault.Counted.{Counted}
use Rattle.cx_unit.specs.declared.limits.UnitLimits.{UnitLimits}
use Rattle.cx_unit.specs.Faults.{text_finding}

-- the number of the answer of a path
abbrev pub number_in : List SeenEntry → List ℕ → ℕ
number_in seen path = position_or_len (λ e. bytes_eq e.path path) seen

-- one finding for each file that could not be read, in the order of the unit's files
abbrev pub read_faults : List SeenEntry → ℕ → List (List ℕ) → List Finding
read_faults seen unit files =
    map (λ path. read_fault path unit) (filter (λ path. is_unreadable (answer_in seen path)) files)

-- no files
abbrev pub nothing : Counted
nothing = record { files = 0; bytes = 0 }

-- with one file more, where there is one
abbrev pub with_file : Answer → Counted → Counted
with_file (Present bytes) before =
    record { files = before.files + 1; bytes = before.bytes + length bytes }
with_file _ before = before

-- the first byte of a file
abbrev pub top_of : ℕ → Place
top_of number = record { file = number; line = 1; column = 1 }

-- the fault of a file that is there, behind so many files: one too many, or too many bytes, or its
-- text has no pieces
abbrev pub present_fault : UnitLimits → ℕ → Counted → Option TextFault → List ℕ → Option Finding
present_fault limits unit before fault bytes =
    if nat_le limits.files before.files
    then Some (limit_passed (codes "files") limits.files (limits.files + 1) (top_of unit))
    else if nat_lt limits.bytes (before.bytes + length bytes)
    then Some (limit_passed (codes "closure bytes") limits.bytes (before.bytes + length bytes)
    (top_of unit))
    else option_map text_finding fault

-- the fault of the file with this number
abbrev pub file_fault
    : UnitLimits → ℕ → ℕ → Counted → Option TextFault → Answer → Option Finding
file_fault limits unit number before fault (Present bytes) =
    present_fault limits unit before fault bytes
file_fault limits unit number before fault TooLarge =
    Some (limit_passed (codes "file bytes") (limits.read - 1) limits.read (top_of number))
file_fault limits unit number before fault _ = None

-- The first fault of files, behind so many others: the unit is the answer of that number, and for
-- each answer it is told why its text has no pieces.
unfoldable pub closure_fault : UnitLimits → List SeenEntry → List (Option TextFault) → ℕ → Counted
    → List (List ℕ) → Option Finding
closure_fault limits seen faults unit before [] = None
closure_fault limits seen faults unit before (path ∷ files) =
    option_or (file_fault limits unit (number_in seen path) before
    (get_or faults (number_in seen path) None) (answer_in seen path))
    (closure_fault limits seen faults unit (with_file (answer_in seen path) before) files)
