-- The names of configurations, and the lines that tell of them.
use Rattle.std.specs.Prelude.{ℕ, List, [], ◌∷◌, ◌++◌, not, codes, map, filter}
use Rattle.std.specs.List.{flat_map}
use Rattle.cx_base.specs.declared.define.Define.{Define}
use Rattle.cx_options.specs.declared.answer.Options.{Options}
use Rattle.cx_configs.specs.Configurations.{is_among}

-- a macro of a word, as `name=value`
abbrev pub part_of : Define → List ℕ
part_of d = d.name ++ codes "=" ++ d.value

-- the macros of words that no word undefines, and then the names that are defined
abbrev pub parts_of : Options → List (List ℕ) → List (List ℕ)
parts_of options names =
    map part_of (filter (λ d. not (is_among options.undefined d.name)) options.defines) ++ names

-- texts with `;` between each two
unfoldable pub joined : List (List ℕ) → List ℕ
joined [] = []
joined (part ∷ parts) = part ++ flat_map (λ other. codes ";" ++ other) parts

-- the name of the configuration with these names
abbrev pub config_name : Options → List (List ℕ) → List ℕ
config_name options names = joined (parts_of options names)

-- the line that tells which file is checked in a configuration of this name
abbrev pub progress_line : List ℕ → List ℕ → List ℕ
progress_line path [] = codes "Checking " ++ path ++ codes " ..."
progress_line path (b ∷ bs) =
    codes "Checking " ++ path ++ codes ": " ++ (b ∷ bs) ++ codes "..."
