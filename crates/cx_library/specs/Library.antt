-- What a library knows, and what two libraries know.
use Rattle.std.specs.Prelude.{ℕ, ◌+◌, Bool, false, List, [], map, option_map, Option, IfSome, unwrap_or}
use Rattle.std.specs.Option.{option_map_or}
use Rattle.cx_base.specs.declared.define.Define.{Define}
use Rattle.cx_table.specs.NameTable.{Entries, HasDistinctNames, names_of, value_of, with_entry}
use Rattle.cx_library.specs.declared.described.Described.{Described}
use Rattle.cx_library.specs.declared.known.Known.{Known}
use Rattle.cx_library.specs.declared.pod.Pod.{Pod}
use Rattle.cx_library.specs.Joined.{joined, latest}
use Rattle.cx_library.specs.Known.{IsGroupedBelow, is_grouped, over, renumbered, unknown}

-- names with what is known of them, in the order in which they were seen first
pub record Contents : Type 0 where
  -- the functions
  pub functions : Entries Known
  -- how many memory groups there are, which are numbered from 0
  pub groups : ℕ
  -- the macros, each with the text that replaces it
  pub defines : Entries (List ℕ)
  -- the podtypes
  pub pods : Entries Pod

-- nothing is known
abbrev pub empty : Contents
empty = record { functions = []; groups = 0; defines = []; pods = [] }

-- ---- the questions

-- what is said of a function
abbrev pub function_of : Contents → List ℕ → Option Described
function_of library name = option_map (λ known. known.described) (value_of library.functions name)

-- a memory group has the function
abbrev pub is_grouped_in : Contents → List ℕ → Bool
is_grouped_in library name = option_map_or is_grouped (function_of library name) false

-- a macro, by its name and its text
abbrev pub define_of : List ℕ × List ℕ → Define
define_of entry = record { name = entry.0; value = entry.1 }

-- the macros
abbrev pub macros_of : Contents → List Define
macros_of library = map define_of library.defines

-- the names of the podtypes
abbrev pub pod_names_of : Contents → List (List ℕ)
pod_names_of library = names_of library.pods

-- a podtype
abbrev pub pod_of : Contents → List ℕ → Option Pod
pod_of library name = value_of library.pods name

-- ---- one library

-- what is known of a function, which may be nothing
abbrev pub known_of : Contents → List ℕ → Known
known_of library name = unwrap_or (value_of library.functions name) unknown

-- with a change of what is known of a function
abbrev pub with_function : List ℕ → (Known → Known) → Contents → Contents
with_function name change library =
    record library {
      functions = with_entry name (change (known_of library name)) library.functions;
    }

-- with one more memory group
abbrev pub with_group : Contents → Contents
with_group library = record library { groups = library.groups + 1 }

-- with a macro
abbrev pub with_define : Define → Contents → Contents
with_define define library =
    record library { defines = with_entry define.name define.value library.defines }

-- with a podtype
abbrev pub with_pod : List ℕ → Pod → Contents → Contents
with_pod name pod library = record library { pods = with_entry name pod library.pods }

-- What holds of every library: a name stands once, and the numbers of memory groups are below their
-- count.
pub record IsLibrary (library : Contents) : Type 0 where
  pub functions : HasDistinctNames library.functions
  pub defines : HasDistinctNames library.defines
  pub pods : HasDistinctNames library.pods
  pub groups : (name : List ℕ) → IfSome (function_of library name) (IsGroupedBelow library.groups)

-- ---- two libraries

-- functions whose memory groups have numbers that are higher by this
abbrev pub all_renumbered : ℕ → Entries Known → Entries Known
all_renumbered by functions = map (λ entry. (entry.0, renumbered by entry.1)) functions

-- What two libraries know, the later over the earlier. The memory groups of the later are numbered
-- on from those of the earlier.
unfoldable pub merged : Contents → Contents → Contents
merged earlier later = record {
  functions = joined over earlier.functions (all_renumbered earlier.groups later.functions);
  groups = earlier.groups + later.groups;
  defines = joined latest earlier.defines later.defines;
  pods = joined latest earlier.pods later.pods;
}
