-- The definitions of specs/, run on examples.
use Rattle.std.proofs.Common.{◌≡◌, ℕ, List, [], ◌∷◌, Option, Some, None, Bool, true, false, refl, ap, Ok, Err, arith}
use Rattle.std.specs.Prelude.{codes, ◌-◌, ◌^◌}
use Rattle.cx_base.proofs.MemberLaws.{are_members}
use Rattle.cx_base.specs.declared.errors.Lost.TheVariants.{Failed, NoMemory}
use Rattle.cx_base.specs.declared.answers.Stored.{Stored}
use Rattle.cx_base.specs.declared.file_calls.FileCall.{FileCall}
use Rattle.cx_base.specs.declared.file_calls.FileRequest.TheVariants.{List as ListFolder, Read}
use Rattle.cx_base.specs.declared.id.Id.TheVariants.{UninitVar, MemLeak}
use Rattle.cx_base.specs.Calls.{next_fails, one_more}
use Rattle.cx_base.specs.Faults.{RoseBy, HasCause}
use Rattle.cx_base.specs.Findings.{id_name, id_severity, severity_name}
use Rattle.cx_base.specs.Folders.{rest_after, inside, entry_at, is_folder, LeadsTo, IsOrdered, AreMembers}
use Rattle.cx_base.specs.Memory.{FailsByNumber, next_call_fails, can_stand, files_state}
use Rattle.cx_base.specs.Outside.{FilesTold, SinkState, failed_paths, file_at, calls_after, GivesFile, GivesFolder, ReadTells, ListTells, Appends, Takes, WriteAppends}
use Rattle.cx_base.specs.Simple.{simple_path, is_simple}
use Rattle.cx_base.specs.Shapes.Members.{added}
use Rattle.cx_base.specs.Sinks.{MemorySinkState, takes_next, is_full, write_fails, Writes}

-- simple paths
abbrev LeadsOn : List ℕ → List ℕ → Type 0
LeadsOn path simple = simple_path path ≡ simple

component_cancelled : LeadsOn (codes "a/..") (codes ".")
unfolding simple_path
component_cancelled = refl

two_cancelled : LeadsOn (codes "a/b/../../c") (codes "c")
unfolding simple_path
two_cancelled = refl

one_is_left : LeadsOn (codes "a/../../b") (codes "../b")
unfolding simple_path
one_is_left = refl

all_at_once : LeadsOn (codes "./a//b/../c.c") (codes "a/c.c")
unfolding simple_path
all_at_once = refl

parent_of_parent_stays : LeadsOn (codes "../..") (codes "../..")
unfolding simple_path
parent_of_parent_stays = refl

parent_of_root_stays : LeadsOn (codes "/..") (codes "/..")
unfolding simple_path
parent_of_root_stays = refl

parent_of_root_before_more : LeadsOn (codes "/../a") (codes "/../a")
unfolding simple_path
parent_of_root_before_more = refl

root_stays : LeadsOn (codes "/") (codes "/")
unfolding simple_path
root_stays = refl

many_slashes : LeadsOn (codes "//a//") (codes "/a")
unfolding simple_path
many_slashes = refl

nothing_is_left : LeadsOn (codes "") (codes ".")
unfolding simple_path
nothing_is_left = refl

rooted_cancelled : LeadsOn (codes "/a/..") (codes "/")
unfolding simple_path
rooted_cancelled = refl

longer_names_are_no_parents : LeadsOn (codes "a/.../..c") (codes "a/.../..c")
unfolding simple_path
longer_names_are_no_parents = refl

simple : (is_simple (codes "/..") ≡ true) × (is_simple (codes "/../a") ≡ true) × (is_simple (codes "../a") ≡ true)
    × (is_simple (codes ".") ≡ true) × (is_simple (codes "/") ≡ true) × (is_simple (codes "a/c.c") ≡ true)
unfolding simple_path
simple = (refl, refl, refl, refl, refl, refl)

not_simple : (is_simple (codes "") ≡ false) × (is_simple (codes "a/..") ≡ false) × (is_simple (codes "a//b") ≡ false)
    × (is_simple (codes "./a") ≡ false) × (is_simple (codes "a/") ≡ false) × (is_simple (codes "//") ≡ false)
unfolding simple_path
not_simple = (refl, refl, refl, refl, refl, refl)

-- folders and their members
abbrev file : List ℕ → List ℕ → Stored
file path bytes = record { path = path; bytes = bytes }

abbrev some_files : List Stored
some_files =
    file (codes "d/e/c.c") (codes "int") ∷ file (codes "d/b.h") [] ∷ file (codes "d0") []
    ∷ file (codes "/r/x.c") [] ∷ file (codes "../u.c") [] ∷ []

rest_of_text : (rest_after (codes "d") (codes "d/b.h") ≡ Some (codes "/b.h")) × (rest_after (codes "e") (codes "d/b.h") ≡ None)
rest_of_text = (refl, refl)

inside_folders : (inside (codes "d") (codes "d/b.h") ≡ Some (codes "b.h")) × (inside (codes "d") (codes "d0") ≡ None)
    × (inside (codes ".") (codes "d/b.h") ≡ Some (codes "d/b.h")) × (inside (codes ".") (codes "../u.c") ≡ None)
    × (inside (codes ".") (codes "/r/x.c") ≡ None) × (inside (codes ".") (codes "..c") ≡ Some (codes "..c"))
inside_folders = (refl, refl, refl, refl, refl, refl)

members : (entry_at (codes "d") (codes "d/e/c.c") ≡ Some (record { name = codes "e"; folder = true }))
    × (entry_at (codes "d") (codes "d/b.h") ≡ Some (record { name = codes "b.h"; folder = false }))
    × (entry_at (codes "d") (codes "d0") ≡ None)
members = (refl, refl, refl)

folders : (is_folder some_files (codes "d") ≡ true) × (is_folder some_files (codes "d/e") ≡ true) × (is_folder some_files (codes ".") ≡ true)
    × (is_folder some_files (codes "..") ≡ true) × (is_folder some_files (codes "d0") ≡ false) × (is_folder some_files (codes "/") ≡ false)
folders = (refl, refl, refl, refl, refl, refl)

leads : LeadsTo some_files (codes "d") (record { name = codes "b.h"; folder = false })
leads = (1, file (codes "d/b.h") [], omega arith, refl, refl)

files_before_folders : IsOrdered (record { name = codes "a"; folder = false } ∷ record { name = codes "a"; folder = true }
    ∷ record { name = codes "b"; folder = false } ∷ [])
files_before_folders = (refl, (refl, tt))

contents : (file_at some_files (codes "d/e/c.c") ≡ Some (codes "int")) × (file_at some_files (codes "d/e") ≡ None) × (file_at some_files (codes "x") ≡ None)
contents = (refl, refl, refl)

front_of_file : GivesFile some_files (codes "d/e/c.c") 2 (Some (codes "in"))
front_of_file = refl

members_of_d : AreMembers some_files (codes "d")
    (record { name = codes "b.h"; folder = false } ∷ record { name = codes "e"; folder = true } ∷ [])
unfolding added
members_of_d = are_members some_files (codes "d")

no_folder_gives_none : GivesFolder some_files (codes "d0") None
no_folder_gives_none = refl

side_by_side : (can_stand some_files ≡ true) × (can_stand (file (codes "a") [] ∷ file (codes "a/b") [] ∷ []) ≡ false)
    × (can_stand (file (codes "./a") [] ∷ []) ≡ false) × (can_stand (file (codes "a") [] ∷ file (codes "a") [] ∷ []) ≡ false)
unfolding simple_path
side_by_side = (refl, refl, refl, refl)

-- calls and their failures
abbrev call_at : List ℕ → Bool → FileCall
call_at path failed = record { path = path; request = Read 5; failed = failed }

answered_call_is_noted : calls_after {T = ℕ} [] (codes "a") ListFolder (Ok 7) ≡ record { path = codes "a"; request = ListFolder; failed = false } ∷ []
answered_call_is_noted = refl

failed_call_is_noted : calls_after {T = ℕ} [] (codes "a") (Read 5) (Err Failed) ≡ call_at (codes "a") true ∷ []
failed_call_is_noted = refl

unanswered_call_is_not_noted : calls_after {T = ℕ} [] (codes "a") (Read 5) (Err NoMemory) ≡ []
unanswered_call_is_not_noted = refl

paths_that_failed : failed_paths (call_at (codes "a") true ∷ call_at (codes "b") false ∷ call_at (codes "a") true ∷ []) ≡ codes "a" ∷ codes "a" ∷ []
paths_that_failed = refl

second_call_fails : (next_call_fails (record { told = record { stored = []; calls = call_at (codes "a") false ∷ [] }; failing = 1 ∷ [] }) ≡ true)
    × (next_call_fails (record { told = record { stored = []; calls = [] }; failing = 1 ∷ [] }) ≡ false)
second_call_fails = (refl, refl)

read_tells : ReadTells (record { told = Some (record { stored = some_files; calls = [] }); faults = 0 })
    (record { told = Some (record { stored = some_files; calls = call_at (codes "d/e/c.c") false ∷ [] }); faults = 0 })
    (codes "d/e/c.c") 5 (Ok (Some (codes "int")))
read_tells = (refl, refl)

abbrev calls_told : Option FilesTold → List FileCall
calls_told None = []
calls_told (Some told) = told.calls

unnoted_read_tells_nothing : ReadTells (record { told = Some (record { stored = []; calls = [] }); faults = 0 })
    (record { told = Some (record { stored = []; calls = [] }); faults = 0 }) (codes "a") 5 (Ok None) → ⊥
unnoted_read_tells_nothing h = let same = ap calls_told h.0 in absurd (cc)

list_without_memory : ListTells (record { told = Some (record { stored = []; calls = [] }); faults = 0 })
    (record { told = Some (record { stored = []; calls = [] }); faults = 0 }) (codes "a") (Err NoMemory)
list_without_memory = (refl, tt)

failed_by_number : FailsByNumber {T = ℕ} (record { told = record { stored = []; calls = [] }; failing = 0 ∷ [] }) (Err Failed)
failed_by_number = refl

each_failure_is_a_fault : (files_state (record { told = record { stored = []; calls = call_at (codes "a") true ∷ call_at (codes "a") false ∷ [] }; failing = 0 ∷ [] })).faults ≡ 1
each_failure_is_a_fault = refl

counted_calls : (next_fails (record { failing = 0 ∷ 2 ∷ []; made = 2 }) ≡ true) × (next_fails (record { failing = 0 ∷ 2 ∷ []; made = 1 }) ≡ false)
counted_calls = (refl, refl)

count_stands_still : (one_more 7 ≡ 8) × (one_more (2 ^ 64 - 1) ≡ 2 ^ 64 - 1)
count_stands_still = (refl, refl)

-- causes
success_leaves_the_count : HasCause {T = ℕ} 3 3 (Ok 1)
success_leaves_the_count = refl

success_that_raises_the_count_has_no_cause : HasCause {T = ℕ} 3 4 (Ok 1) → ⊥
success_that_raises_the_count_has_no_cause h = absurd (cc)

want_of_memory_that_raises_the_count_has_no_cause : HasCause {T = ℕ} 3 4 (Err NoMemory) → ⊥
want_of_memory_that_raises_the_count_has_no_cause h = absurd (cc)

failure_that_leaves_the_count_has_no_cause : HasCause {T = ℕ} 3 3 (Err Failed) → ⊥
failure_that_leaves_the_count_has_no_cause h = absurd (omega (arith, h.1))

failure_raises_the_count : HasCause {T = ℕ} 3 4 (Err Failed)
failure_raises_the_count = (omega arith, omega arith)

failure_at_the_end : HasCause {T = ℕ} (2 ^ 64 - 1) (2 ^ 64 - 1) (Err Failed)
failure_at_the_end = (omega arith, omega arith)

rose_twice : RoseBy 2 3 5
rose_twice = omega arith

-- sinks
abbrev holding : List ℕ → SinkState
holding bytes = record { holds = Some bytes; faults = 0 }

appended : Appends (holding (codes "ab")) (holding (codes "abc")) (codes "c")
appended = refl

front_appended : WriteAppends (holding (codes "ab")) (holding (codes "abc")) (codes "cd") (Ok 1)
front_appended = refl

takes_some : Takes (codes "cd") (Ok 1)
takes_some = (omega arith, λ h. omega arith)

abbrev sink : Option ℕ → List ℕ → MemorySinkState
sink room held = record { holds = held; calls = record { failing = []; made = 0 }; room = room; most = 3; faults = 0 }

room_and_pace : (takes_next (sink None (codes "ab")) ≡ 3) × (takes_next (sink (Some 4) (codes "ab")) ≡ 2) × (takes_next (sink (Some 2) (codes "ab")) ≡ 0)
room_and_pace = (refl, refl, refl)

written : Writes (sink None (codes "ab")) (record { holds = codes "abcde"; calls = record { failing = []; made = 1 }; room = None; most = 3; faults = 0 }) (codes "cdef") (Ok 3)
written = (refl, refl, refl)

refused : Writes (sink (Some 2) (codes "ab")) (record { holds = codes "ab"; calls = record { failing = []; made = 1 }; room = Some 2; most = 3; faults = 1 }) (codes "c") (Err Failed)
refused = (refl, refl)

full : (is_full (sink (Some 2) (codes "ab")) (codes "c") ≡ true) × (is_full (sink (Some 2) (codes "ab")) [] ≡ false) × (write_fails (sink (Some 3) (codes "ab")) (codes "cd") ≡ false)
full = (refl, refl, refl)

-- findings
names : (id_name UninitVar ≡ codes "uninitvar") × (severity_name (id_severity MemLeak) ≡ codes "error")
names = (refl, refl)
