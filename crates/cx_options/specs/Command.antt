-- The command line: its options, or the first word that is refused.
use Rattle.std.specs.Prelude.{ℕ, List, [], ◌∷◌, Bool, true, false, Option, Some, None, Result, Ok, Err, unwrap_or}
use Rattle.std.specs.List.{filter_map, last_or, list_any}
use Rattle.cx_base.specs.declared.define.Define.{Define}
use Rattle.cx_options.specs.declared.enabled.Enabled.{Enabled}
use Rattle.cx_options.specs.declared.fault.WordKind.{WordKind}
use Rattle.cx_options.specs.declared.answer.ListWord.{ListWord}
use Rattle.cx_options.specs.declared.answer.Options.{Options}
use Rattle.cx_options.specs.declared.setting.Setting.{Setting}
use Rattle.cx_options.specs.declared.setting.Setting.TheVariants as setting
use Rattle.cx_options.specs.Arguments.{nothing}
use Rattle.cx_options.specs.Settings.{Asked, asked}
use Rattle.cx_options.specs.Spellings.{Given, givens}

-- a refused word, by its number, and why it is refused
pub record Refused : Type 0 where
  pub word : ℕ
  pub kind : WordKind

-- a word's setting before those of the words behind it, unless the word is refused
abbrev pub before_others : ℕ → Asked → Result (List Setting) Refused → Result (List Setting) Refused
before_others word (Err kind) others = Err (record { word = word; kind = kind })
before_others word (Ok s) (Err refused) = Err refused
before_others word (Ok s) (Ok others) = Ok (s ∷ others)

-- what words ask for, in their order, or the first refused word
unfoldable pub settings : List Given → Result (List Setting) Refused
settings [] = Ok []
settings (g ∷ gs) = before_others g.word (asked g) (settings gs)

abbrev pub path_of : Setting → Option (List ℕ)
path_of (setting.Path path) = Some path
path_of _ = None

abbrev pub define_of : Setting → Option Define
define_of (setting.Define define) = Some define
define_of _ = None

abbrev pub undefined_of : Setting → Option (List ℕ)
undefined_of (setting.Undefine name) = Some name
undefined_of _ = None

abbrev pub folder_of : Setting → Option (List ℕ)
folder_of (setting.Folder path) = Some path
folder_of _ = None

abbrev pub is_quiet : Setting → Bool
is_quiet setting.Quiet = true
is_quiet _ = false

-- what a setting switches on
abbrev pub switched_on : Setting → Enabled
switched_on (setting.Enable e) = e
switched_on _ = nothing

abbrev pub list_of : Setting → Option ListWord
list_of (setting.List list) = Some list
list_of _ = None

abbrev pub exitcode_of : Setting → Option ℕ
exitcode_of (setting.ErrorExitcode code) = Some code
exitcode_of _ = None

-- how many configurations are looked at: all of them, or so many
pub data Bound : Type 0 where
  every : Bound
  at_most : ℕ → Bound

abbrev pub bound_of : Setting → Option Bound
bound_of setting.Force = Some every
bound_of (setting.MaxConfigs n) = Some (at_most n)
bound_of _ = None

-- the last of the values that settings have
abbrev pub last_of : {A : Type 0} → (Setting → Option A) → List Setting → Option A
last_of f ss = last_or None (filter_map f ss)

abbrev pub is_every : Option Bound → Bool
is_every (Some every) = true
is_every _ = false

abbrev pub number_at_most : Option Bound → Option ℕ
number_at_most (Some (at_most n)) = Some n
number_at_most _ = None

-- The options that settings make: lists in the order of the words, what is switched on by any of
-- them, and the last of what has one value. `--force` and `--max-configs=` are one value.
unfoldable pub options_of : List Setting → Options
options_of ss =
    record {
      paths = filter_map path_of ss;
      defines = filter_map define_of ss;
      undefined = filter_map undefined_of ss;
      folders = filter_map folder_of ss;
      quiet = list_any is_quiet ss;
      warning = list_any (λ s. (switched_on s).warning) ss;
      style = list_any (λ s. (switched_on s).style) ss;
      information = list_any (λ s. (switched_on s).information) ss;
      missing_include = list_any (λ s. (switched_on s).missing_include) ss;
      lists = filter_map list_of ss;
      error_exitcode = unwrap_or (last_of exitcode_of ss) 0;
      force = is_every (last_of bound_of ss);
      max_configs = number_at_most (last_of bound_of ss);
    }

abbrev pub made_of : Result (List Setting) Refused → Result Options Refused
made_of (Ok ss) = Ok (options_of ss)
made_of (Err refused) = Err refused

-- the options of the words, or the first refused word
unfoldable pub command : List (List ℕ) → Result Options Refused
command words = made_of (settings (givens 0 words))
