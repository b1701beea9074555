-- The step of files in memory at a call, joined to Outside.Notes and Memory.FailsByNumber by the
-- clauses `tells` and `number` of their `read` and `list`.
use Rattle.std.specs.Prelude.{◌≡◌, ℕ, Bool, true, List, [], ◌∷◌, ◌++◌}
use Rattle.cx_base.specs.declared.errors.Lost.{Lost}
use Rattle.cx_base.specs.declared.errors.Lost.TheVariants.{Failed, NoMemory}
use Rattle.cx_base.specs.declared.file_calls.FileRequest.{FileRequest}
use Rattle.cx_base.specs.Memory.{MemoryFilesState}

-- files with one more call noted
abbrev pub with_call : MemoryFilesState → List ℕ → FileRequest → Bool → MemoryFilesState
with_call files path request failed =
    record files {
      told = record files.told {
        calls = files.told.calls ++ record { path = path; request = request; failed = failed } ∷ [];
      };
    }

-- a call that is to fail is noted, and where memory ran out nothing changes
abbrev pub FailsAt : MemoryFilesState → MemoryFilesState → List ℕ → FileRequest → Lost → Type 0
FailsAt before after path request Failed = after ≡ with_call before path request true
FailsAt before after path request NoMemory = after ≡ before
