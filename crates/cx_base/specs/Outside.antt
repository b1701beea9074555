-- What the files and the sinks that the checker is given mean.
use Rattle.std.specs.Prelude.{◌≡◌, ℕ, ◌≤◌, ◌<◌, true, false, if◌then◌else◌, List, [], ◌∷◌, ◌++◌, length, take, Option, Some, None, option_map, Result, Ok, Err, IfOk, IfSome, map, bytes_eq, MatchOption, IsTrue, IsFalse}
use Rattle.std.specs.List.{filter, find}
use Rattle.cx_base.specs.declared.errors.Lost.{Lost}
use Rattle.cx_base.specs.declared.errors.Lost.TheVariants.{Failed, NoMemory}
use Rattle.cx_base.specs.declared.answers.Entry.{Entry}
use Rattle.cx_base.specs.declared.answers.Stored.{Stored}
use Rattle.cx_base.specs.declared.file_calls.FileCall.{FileCall}
use Rattle.cx_base.specs.declared.file_calls.FileRequest.{FileRequest}
use Rattle.cx_base.specs.declared.file_calls.FileRequest.TheVariants.{List as ListFolder, Read}
use Rattle.cx_base.specs.Folders.{is_folder, AreMembers}

-- all that files tell of themselves: their contents, and the calls that were answered, in order
pub record FilesTold : Type 0 where
  pub stored : List Stored
  pub calls : List FileCall

-- files, as those who use them see them: what they tell, where they do, and how many calls failed
pub record FilesState : Type 0 where
  pub told : Option FilesTold
  pub faults : ℕ

-- a sink, as those who use it see it: the bytes that it took, where it tells them, and how many
-- calls failed
pub record SinkState : Type 0 where
  pub holds : Option (List ℕ)
  pub faults : ℕ

-- the paths of the calls that failed
abbrev pub failed_paths : List FileCall → List (List ℕ)
failed_paths calls = map (λ call. call.path) (filter (λ call. call.failed) calls)

-- the bytes stored under a path
abbrev pub bytes_at : List Stored → List ℕ → Option (List ℕ)
bytes_at stored path =
    option_map (λ file. file.bytes) (find (λ file. bytes_eq file.path path) stored)

-- the bytes of the file at a path, which is none where the path is a folder
abbrev pub file_at : List Stored → List ℕ → Option (List ℕ)
file_at stored path = if is_folder stored path then None else bytes_at stored path

-- the calls after one more, which is added where it was answered: where memory ran out it was not
abbrev pub calls_after : {T : Type 0}
    → List FileCall → List ℕ → FileRequest → Result T Lost → List FileCall
calls_after calls path request (Ok x) =
    calls ++ record { path = path; request = request; failed = false } ∷ []
calls_after calls path request (Err Failed) =
    calls ++ record { path = path; request = request; failed = true } ∷ []
calls_after calls path request (Err NoMemory) = calls

-- files that tell of themselves go on telling: a call is added to the calls, and nothing changes
-- in what is stored
abbrev pub Notes : {T : Type 0}
    → FilesTold → FilesState → List ℕ → FileRequest → Result T Lost → Type 0
Notes told after path request result =
    after.told ≡ Some (record told { calls = calls_after told.calls path request result })

-- a file gives its first bytes, at most so many
abbrev pub GivesFile : List Stored → List ℕ → ℕ → Option (List ℕ) → Type 0
GivesFile stored path most given = given ≡ option_map (take most) (file_at stored path)

-- a folder gives its members, and what is no folder gives none
abbrev pub GivesFolder : List Stored → List ℕ → Option (List Entry) → Type 0
GivesFolder stored path given =
    MatchOption given (IsFalse (is_folder stored path))
    (λ entries. IsTrue (is_folder stored path) × AreMembers stored path entries)

-- what a `read` tells, where the files tell of themselves
abbrev pub ReadTells : FilesState → FilesState → List ℕ → ℕ → Result (Option (List ℕ)) Lost → Type 0
ReadTells before after path most result =
    IfSome before.told (λ told. Notes told after path (Read most) result
    × IfOk result (GivesFile told.stored path most))

-- what a `list` tells, where the files tell of themselves
abbrev pub ListTells : FilesState → FilesState → List ℕ → Result (Option (List Entry)) Lost → Type 0
ListTells before after path result =
    IfSome before.told (λ told. Notes told after path ListFolder result
    × IfOk result (GivesFolder told.stored path))

-- what a sink holds, where it tells that, gained these bytes at its end
abbrev pub Appends : SinkState → SinkState → List ℕ → Type 0
Appends before after added = IfSome before.holds (λ held. after.holds ≡ Some (held ++ added))

-- a write takes a front of the bytes, and some of them where there are any
abbrev pub Takes : List ℕ → Result ℕ Lost → Type 0
Takes bytes result = IfOk result (λ n. (n ≤ length bytes) × (0 < length bytes → 0 < n))

-- a write appends the front that it took, and nothing where it was refused
abbrev pub WriteAppends : SinkState → SinkState → List ℕ → Result ℕ Lost → Type 0
WriteAppends before after bytes (Ok n) = Appends before after (take n bytes)
WriteAppends before after bytes (Err lost) = Appends before after []
