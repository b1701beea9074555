-- What a word of the command line asks for.
use Rattle.std.specs.Prelude.{ℕ, List, [], ◌∷◌, Bool, false, ◌==◌, not, if◌then◌else◌, Option, Some, None, Result, Ok, Err, codes, bytes_eq}
use Rattle.cx_options.specs.declared.enabled.Enabled.{Enabled}
use Rattle.cx_options.specs.declared.fault.WordKind.{WordKind}
use Rattle.cx_options.specs.declared.fault.WordKind.TheVariants as kind
use Rattle.cx_options.specs.declared.setting.Setting.{Setting}
use Rattle.cx_options.specs.declared.setting.Setting.TheVariants as setting
use Rattle.cx_options.specs.declared.spelling.Purpose.{Purpose}
use Rattle.cx_options.specs.declared.spelling.Purpose.TheVariants as purpose
use Rattle.cx_options.specs.Arguments.{definition, enabled, is_file, is_name, number_in}
use Rattle.cx_options.specs.Spellings.{Given, Spelt, argument, spelt_as}

-- what is asked for, or why it is refused
abbrev pub Asked : Type 0
Asked = Result Setting WordKind

-- the argument is this word, and asks for nothing
abbrev pub only : List ℕ → List ℕ → Asked
only word text = if bytes_eq text word then Ok setting.Nothing else Err kind.BadValue

abbrev pub enabling : Option Enabled → Asked
enabling None = Err kind.BadValue
enabling (Some e) = Ok (setting.Enable e)

abbrev pub exitcode : Option ℕ → Asked
exitcode None = Err kind.BadNumber
exitcode (Some n) = Ok (setting.ErrorExitcode n)

abbrev pub most_configs : Option ℕ → Asked
most_configs None = Err kind.BadNumber
most_configs (Some n) = Ok (setting.MaxConfigs n)

abbrev pub defining : List ℕ → Asked
defining text =
    if is_name (definition text).name then Ok (setting.Define (definition text))
    else Err kind.BadName

-- what an option in the word with a number asks for, by its argument
unfoldable pub setting_of : Purpose → ℕ → List ℕ → Asked
setting_of purpose.Define word text = defining text
setting_of purpose.Undefine word text =
    if is_name text then Ok (setting.Undefine text) else Err kind.BadName
setting_of purpose.Folder word text = Ok (setting.Folder text)
setting_of purpose.Quiet word text = Ok setting.Quiet
setting_of purpose.Enable word text = enabling (enabled text)
setting_of purpose.FileList word text =
    if is_file text
    then Ok (setting.List (record { word = word; path = text; suppressions = false }))
    else Err kind.BadValue
setting_of purpose.ErrorExitcode word text = exitcode (number_in 0 255 text)
setting_of purpose.Force word text = Ok setting.Force
setting_of purpose.MaxConfigs word text = most_configs (number_in 1 4096 text)
setting_of purpose.Standard word text = only (codes "c11") text
setting_of purpose.Language word text = only (codes "c") text

-- a word that is not empty and does not begin with `-`
abbrev pub is_path : List ℕ → Bool
is_path [] = false
is_path (b ∷ bs) = not (b == 45)

abbrev pub by_argument : Purpose → ℕ → Option (List ℕ) → Asked
by_argument p word None = Err kind.MissingValue
by_argument p word (Some text) = setting_of p word text

abbrev pub by_option : Given → Option Spelt → Asked
by_option g None = Err kind.Unknown
by_option g (Some s) = by_argument s.purpose g.word (argument s g.next)

-- what a word asks for: it is a path, or an option
unfoldable pub asked : Given → Asked
asked g = if is_path g.text then Ok (setting.Path g.text) else by_option g (spelt_as g.text)
