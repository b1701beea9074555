-- The configurations of a unit (the Cppcheck manual, "Preprocessor Settings").
use Rattle.std.specs.Prelude.{ℕ, ◌-◌, List, [], ◌∷◌, ◌++◌, Bool, true, false, not, Option, Some, None, if◌then◌else◌, option_map, codes, bytes_eq, map, fold, filter, take, unwrap_or}
use Rattle.std.specs.List.{filter_map, flat_map, list_any}
use Rattle.std.specs.Ordering.{nat_cmp}
use Rattle.std.specs.Cmp.Lexicographic.{pointwise, slice_cmp}
use Rattle.std.specs.BTreeSet.{insert_key as insert_in_order}
use Rattle.indexmap.specs.IndexSet.{insert_all}
use Rattle.cx_base.specs.declared.define.Define.{Define}
use Rattle.cx_lines.specs.declared.kind.LineKind.{LineKind}
use Rattle.cx_lines.specs.declared.kind.LineKind.TheVariants as kind
use Rattle.cx_lines.specs.Kinds.{kind_of}
use Rattle.cx_lines.specs.Lines.{lines_of}
use Rattle.cx_lines.specs.Nesting.{Line}
use Rattle.cx_directive.specs.Operands.{name_of, operands}
use Rattle.cx_options.specs.declared.answer.Options.{Options}
use Rattle.cx_pre.specs.declared.config.Config.{Config}
use Rattle.cx_shelf.specs.declared.shelf.Shelf.{Shelf}
use Rattle.cx_shelf.specs.Closures.{closure_of}
use Rattle.cx_shelf.specs.Shelves.{pieces_of}
use Rattle.cx_configs.specs.Questions.{Name, asked_lists}

-- the macros that stand before every unit (C11 6.10.8.1)
abbrev pub predefined : List Name
predefined =
    codes "__FILE__" ∷ codes "__LINE__" ∷ codes "__STDC__" ∷ codes "__STDC_VERSION__" ∷ []

abbrev pub defined_by : LineKind → Line → Option Name
defined_by kind.Define line = name_of (operands line)
defined_by _ line = None

-- the name that a line defines, whatever group it stands in and whatever its form
abbrev pub defined_name : Line → Option Name
defined_name line = defined_by (kind_of line) line

-- the lines of the files with these numbers
abbrev pub lines_in : Shelf → List ℕ → List (List Line)
lines_in shelf files = map (λ file. lines_of (pieces_of shelf file)) files

abbrev pub names_defined : List Define → List Name
names_defined defines = map (λ d. d.name) defines

-- the names that no configuration has: they are defined already, or stay undefined
unfoldable pub settled_names : List (List Line) → List Define → Options → List Name
settled_names files library options =
    predefined ++ flat_map (λ lines. filter_map defined_name lines) files
    ++ names_defined library ++ names_defined options.defines ++ options.undefined

abbrev pub is_among : List Name → Name → Bool
is_among names name = list_any (bytes_eq name) names

-- names in the order of their bytes, each once
unfoldable pub sorted : List Name → List Name
sorted names = fold (insert_in_order (slice_cmp nat_cmp)) [] names

-- the names of a list that are not settled, in order
abbrev pub open_names : List Name → List Name → List Name
open_names settled names = sorted (filter (λ n. not (is_among settled n)) names)

abbrev pub has_names : List Name → Bool
has_names [] = false
has_names (name ∷ names) = true

-- lists that are not empty, each once, in the order in which they first stand
abbrev pub first_ones : List (List Name) → List (List Name)
first_ones lists = insert_all (pointwise bytes_eq) [] (filter has_names lists)

-- as many configurations as are looked at where no word says how many
abbrev pub most_configurations : ℕ
most_configurations = 12

-- where macros are defined by words, and no word says how many, the empty list stands alone
abbrev pub usual_bound : List Define → ℕ
usual_bound [] = most_configurations
usual_bound (d ∷ ds) = 1

-- how many configurations are looked at, if not all
unfoldable pub bound_of : Options → Option ℕ
bound_of options =
    if options.force then None
    else Some (unwrap_or options.max_configs (usual_bound options.defines))

abbrev pub up_to : {A : Type 0} → Option ℕ → List A → List A
up_to None xs = xs
up_to (Some n) xs = take n xs

-- The lists of names of the configurations: the empty list first, and then those for which lines
-- ask, up to so many in all.
unfoldable pub name_lists : Option ℕ → List Name → List (List Line) → List (List Name)
name_lists bound settled files =
    [] ∷ up_to (option_map (λ n. n - 1) bound)
    (first_ones (map (open_names settled) (flat_map (asked_lists []) files)))

-- the macros that each configuration defines: those of the library, and those of the words that no
-- word undefines
unfoldable pub defines_of : List Define → Options → List Define
defines_of library options =
    library ++ filter (λ d. not (is_among options.undefined d.name)) options.defines

-- the lists of names of a unit's configurations
unfoldable pub names_of_unit : Shelf → ℕ → Options → List Define → List (List Name)
names_of_unit shelf unit options library =
    let files = lines_in shelf (closure_of shelf unit) in
    name_lists (bound_of options) (settled_names files library options) files

-- the configurations of a unit
unfoldable pub configurations : Shelf → ℕ → Options → List Define → List Config
configurations shelf unit options library =
    map (λ names. record { defines = defines_of library options; names = names })
    (names_of_unit shelf unit options library)
