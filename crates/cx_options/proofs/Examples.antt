-- Examples of command lines.
use Rattle.std.proofs.Common.{◌≡◌, ℕ, List, [], ◌∷◌, Bool, true, false, None, Some, Ok, Err, codes, refl}
use Rattle.std.specs.Prelude.{◌&&◌, nat_eq, not}
use Rattle.std.specs.List.{list_all, starts_with}
use Rattle.cx_options.specs.declared.answer.Options.{Options}
use Rattle.cx_options.specs.declared.fault.WordKind.{WordKind}
use Rattle.cx_options.specs.declared.fault.WordKind.TheVariants as kind
use Rattle.cx_options.specs.Arguments.{definition, enabled_alone, enabled_by, is_name, is_number, number_in, number_of}
use Rattle.cx_options.specs.Command.{Refused, command, options_of, settings}
use Rattle.cx_options.specs.Settings.{asked, setting_of}
use Rattle.cx_options.specs.Spellings.{Row, givens, is_spelt, spelt_as, table, takes_next}
use Rattle.cx_options.specs.Texts.{refusal_text}

abbrev none : Options
none = options_of []

abbrev refused : ℕ → WordKind → Refused
refused word k = record { word = word; kind = k }

-- no words: nothing is checked, and all else is as usual
no_words : command [] ≡ Ok (record {
  paths = [];
  defines = [];
  undefined = [];
  folders = [];
  quiet = false;
  warning = false;
  style = false;
  information = false;
  missing_include = false;
  lists = [];
  error_exitcode = 0;
  force = false;
  max_configs = None;
})
unfolding command settings givens options_of
no_words = refl

-- `-DX a.c -D Y=2 b.c`
two_macros : command (codes "-DX" ∷ codes "a.c" ∷ codes "-D" ∷ codes "Y=2" ∷ codes "b.c" ∷ []) ≡ Ok (record none {
  paths = codes "a.c" ∷ codes "b.c" ∷ [];
  defines = record { name = codes "X"; value = codes "1" } ∷ record { name = codes "Y"; value = codes "2" } ∷ [];
})
unfolding command settings givens takes_next asked spelt_as is_spelt setting_of definition is_name options_of
two_macros = refl

-- `-DX=` defines X as nothing
empty_macro : definition (codes "X=") ≡ record { name = codes "X"; value = [] }
unfolding definition
empty_macro = refl

-- `-D` at the end; `-D -q a.c` does not define a macro named `-q`
no_argument : command (codes "a.c" ∷ codes "-D" ∷ []) ≡ Err (refused 1 kind.MissingValue)
unfolding command settings givens takes_next asked spelt_as is_spelt
no_argument = refl

option_is_no_name : command (codes "-D" ∷ codes "-q" ∷ codes "a.c" ∷ []) ≡ Err (refused 0 kind.BadName)
unfolding command settings givens takes_next asked spelt_as is_spelt setting_of definition is_name
option_is_no_name = refl

-- `-I ''` names the empty folder, and an empty word alone is unknown
empty_folder : command (codes "-I" ∷ [] ∷ []) ≡ Ok (record none { folders = [] ∷ [] })
unfolding command settings givens takes_next asked spelt_as is_spelt setting_of options_of
empty_folder = refl

empty_word : command ([] ∷ codes "--bogus" ∷ []) ≡ Err (refused 0 kind.Unknown)
unfolding command settings givens takes_next asked spelt_as is_spelt
empty_word = refl

-- `-` and `--` are neither paths nor options
dashes : (command (codes "-" ∷ []) ≡ Err (refused 0 kind.Unknown)) × (command (codes "--" ∷ []) ≡ Err (refused 0 kind.Unknown))
unfolding command settings givens takes_next asked spelt_as is_spelt
dashes = (refl, refl)

-- the last of `--force` and `--max-configs=` counts
last_bound : command (codes "--force" ∷ codes "--max-configs=2" ∷ []) ≡ Ok (record none { max_configs = Some 2 })
unfolding command settings givens takes_next asked spelt_as is_spelt setting_of number_in number_of is_number options_of
last_bound = refl

last_force : command (codes "--max-configs=2" ∷ codes "--force" ∷ []) ≡ Ok (record none { force = true })
unfolding command settings givens takes_next asked spelt_as is_spelt setting_of number_in number_of is_number options_of
last_force = refl

-- several words switch on what each of them does
switched : command (codes "--enable=style" ∷ codes "--enable=information,portability" ∷ [])
    ≡ Ok (record none { warning = true; style = true; information = true })
unfolding command settings givens takes_next asked spelt_as is_spelt setting_of enabled_by enabled_alone options_of
switched = refl

unused_function : command (codes "--enable=unusedFunction" ∷ []) ≡ Err (refused 0 kind.BadValue)
unfolding command settings givens takes_next asked spelt_as is_spelt setting_of enabled_by enabled_alone
unused_function = refl

-- one to four digits
four_digits : number_in 1 4096 (codes "0012") ≡ Some 12
unfolding number_in number_of is_number
four_digits = refl

five_digits : number_in 1 4096 (codes "00012") ≡ None
unfolding number_in number_of is_number
five_digits = refl

-- a list is named with the number of its word
listed : command (codes "a.c" ∷ codes "--file-list=f" ∷ [])
    ≡ Ok (record none { paths = codes "a.c" ∷ []; lists = record { word = 1; path = codes "f"; suppressions = false } ∷ [] })
unfolding command settings givens takes_next asked spelt_as is_spelt setting_of options_of
listed = refl

told : refusal_text kind.BadName (codes "-D1x") ≡ codes "\"-D1x\" does not name a macro."
unfolding refusal_text
told = refl

-- no option's spelling begins with another's, so that a word is at most one of them
unfoldable begins_no_other : List Row → Bool
begins_no_other [] = true
begins_no_other (row ∷ rows) =
    list_all (λ other. not (starts_with nat_eq row.0 other.0) && not (starts_with nat_eq other.0 row.0)) rows && begins_no_other rows

spellings_differ : begins_no_other table ≡ true
unfolding begins_no_other
spellings_differ = refl
