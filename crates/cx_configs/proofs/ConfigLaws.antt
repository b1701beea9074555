-- The configurations that are found are those of the definition.
use Rattle.std.proofs.Common.{◌≡◌, ℕ, ◌-◌, List, [], ◌∷◌, Option, refl, ap, ◌∙◌, map}
use Rattle.std.specs.List.{flat_map}
use Rattle.std.specs.Option.{option_map}
use Rattle.cx_table.specs.NameTable.{Entries}
use Rattle.cx_base.specs.declared.define.Define.{Define}
use Rattle.cx_lines.specs.Nesting.{Line}
use Rattle.cx_options.specs.declared.answer.Options.{Options}
use Rattle.cx_pre.specs.declared.config.Config.{Config}
use Rattle.cx_shelf.specs.declared.shelf.Shelf.{Shelf}
use Rattle.cx_shelf.specs.Closures.{closure_of}
use Rattle.cx_configs.specs.Configurations.{bound_of, configurations, defines_of, first_ones, lines_in, name_lists, names_of_unit, open_names, settled_names, sorted, up_to}
use Rattle.cx_configs.specs.Questions.{Name, asked_lists}
use Rattle.cx_configs.specs.Shapes.Lists.{lists_of, with_lists}
use Rattle.cx_configs.specs.Shapes.Sets.{with_all_settled, with_names}
use Rattle.cx_configs.proofs.ListLaws.{lists_are_found, map_flat_map}
use Rattle.cx_configs.proofs.SettledLaws.{open_names_are}

map_same : {A B : Type 0} (f g : A → B) → ((x : A) → f x ≡ g x) → (xs : List A) → map f xs ≡ map g xs
map_same f g same [] = refl
map_same f g same (x ∷ xs) =
    ap (λ y. y ∷ map f xs) (same x) ∙ ap (λ ys. g x ∷ ys) (map_same f g same xs)

lists_are : (names : List Name) (files : List (List Line))
    → flat_map (lists_of (with_all_settled [] names)) files
    ≡ map (open_names names) (flat_map (asked_lists []) files)
unfolding lists_of sorted
lists_are names files =
    map_flat_map (with_names (with_all_settled [] names) []) (asked_lists []) files
    ∙ map_same (with_names (with_all_settled [] names) []) (open_names names) (open_names_are names [])
    (flat_map (asked_lists []) files)

pub found_lists_are : (most : Option ℕ) (names : List Name) (files : List (List Line))
    → with_lists most [] (flat_map (lists_of (with_all_settled [] names)) files)
    ≡ up_to most (first_ones (map (open_names names) (flat_map (asked_lists []) files)))
found_lists_are most names files =
    ap (with_lists most []) (lists_are names files) ∙ lists_are_found most (map (open_names names) (flat_map (asked_lists []) files))

-- configurations by what is seen of their lists
pub configs_seen : {K : Type 0} (defines : List Define) (seen : K → List Name) (items : List K) (lists : List (List Name))
    → map seen items ≡ lists
    → map {B = Config} (λ k. record { defines = defines; names = seen k }) items
    ≡ map (λ names. record { defines = defines; names = names }) lists
configs_seen defines seen [] lists e = ap (map (λ names. record { defines = defines; names = names })) e
configs_seen defines seen (k ∷ ks) lists e =
    ap (λ rest. record { defines = defines; names = seen k } ∷ rest) (configs_seen defines seen ks (map seen ks) refl)
    ∙ ap (map (λ names. record { defines = defines; names = names })) e

-- what is found on the way is the configurations of the unit
pub configurations_are : (shelf : Shelf) (unit : ℕ) (options : Options) (library : List Define) (files : List ℕ)
    (settled : Entries (Unit {0})) (most : Option ℕ) (lists : List (List Name)) (defines : List Define)
    → files ≡ closure_of shelf unit
    → settled ≡ with_all_settled [] (settled_names (lines_in shelf files) library options)
    → most ≡ option_map (λ n. n - 1) (bound_of options)
    → lists ≡ with_lists most [] (flat_map (lists_of settled) (lines_in shelf files))
    → defines ≡ defines_of library options
    → map (λ names. record { defines = defines; names = names }) ([] ∷ lists)
    ≡ configurations shelf unit options library
unfolding configurations names_of_unit name_lists
configurations_are shelf unit options library files settled most lists defines e1 e2 e3 e4 e5 =
    let names = settled_names (lines_in shelf files) library options in
    let found = first_ones (map (open_names names) (flat_map (asked_lists []) (lines_in shelf files))) in
    let bound = option_map (λ n. n - 1) (bound_of options) in
    ap (λ ls. map {B = Config} (λ n. record { defines = defines; names = n }) ([] ∷ ls))
    (e4 ∙ ap (λ s. with_lists most [] (flat_map (lists_of s) (lines_in shelf files))) e2
    ∙ found_lists_are most names (lines_in shelf files))
    ∙ ap (λ m. map {B = Config} (λ n. record { defines = defines; names = n }) ([] ∷ up_to m found)) e3
    ∙ ap (λ d. map {B = Config} (λ n. record { defines = d; names = n }) ([] ∷ up_to bound found)) e5
    ∙ ap (λ fs. map {B = Config} (λ n. record { defines = defines_of library options; names = n }) ([] ∷ up_to bound
    (first_ones (map (open_names (settled_names (lines_in shelf fs) library options))
    (flat_map (asked_lists []) (lines_in shelf fs)))))) e1
