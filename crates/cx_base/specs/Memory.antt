-- The state of files in memory, and which files can stand side by side.
use Rattle.std.specs.Prelude.{ℕ, Bool, true, not, ◌==◌, ◌&&◌, List, [], ◌∷◌, length, Result, Ok, Err, Some, bytes_eq, IsTrue, IsFalse}
use Rattle.std.specs.List.{list_all, list_any}
use Rattle.cx_base.specs.declared.errors.Lost.{Lost}
use Rattle.cx_base.specs.declared.errors.Lost.TheVariants.{Failed, NoMemory}
use Rattle.cx_base.specs.declared.answers.Stored.{Stored}
use Rattle.cx_base.specs.Folders.{is_folder}
use Rattle.cx_base.specs.Outside.{FilesTold, FilesState, failed_paths}
use Rattle.cx_base.specs.Simple.{is_simple}

-- files in memory: what they tell, and the numbers of the calls that fail, counted from 0
pub record MemoryFilesState : Type 0 where
  pub told : FilesTold
  pub failing : List ℕ

-- files in memory as their users see them
abbrev pub files_state : MemoryFilesState → FilesState
files_state files =
    record { told = Some files.told; faults = length (failed_paths files.told.calls) }

-- whether the next call is to fail: its number is that of the calls answered before it
abbrev pub next_call_fails : MemoryFilesState → Bool
next_call_fails files = list_any (λ number. number == length files.told.calls) files.failing

-- a call fails exactly where its number says so, unless memory ran out
abbrev pub FailsByNumber : {T : Type 0} → MemoryFilesState → Result T Lost → Type 0
FailsByNumber before (Ok x) = IsFalse (next_call_fails before)
FailsByNumber before (Err Failed) = IsTrue (next_call_fails before)
FailsByNumber before (Err NoMemory) = Unit {0}

-- no path stands in the list twice
abbrev pub are_distinct : List Stored → Bool
are_distinct [] = true
are_distinct (file ∷ files) =
    list_all (λ other. not (bytes_eq other.path file.path)) files && are_distinct files

-- a path can be that of a file where it is simple and no folder
abbrev pub can_be_file : List Stored → List ℕ → Bool
can_be_file files path = is_simple path && not (is_folder files path)

-- files that can stand side by side: their paths are distinct, and each can be that of a file
abbrev pub can_stand : List Stored → Bool
can_stand files = are_distinct files && list_all (λ file. can_be_file files file.path) files
