-- Options as words are read from left to right.
use Rattle.std.specs.Prelude.{ℕ, List, [], ◌∷◌, ◌++◌, true, false, ◌||◌, Some, None, Result, Ok, Err}
use Rattle.cx_options.specs.declared.answer.Options.{Options}
use Rattle.cx_options.specs.declared.setting.Setting.{Setting}
use Rattle.cx_options.specs.declared.setting.Setting.TheVariants as setting
use Rattle.cx_options.specs.Command.{Refused}
use Rattle.cx_options.specs.Settings.{Asked, asked}
use Rattle.cx_options.specs.Spellings.{Given}

-- options with one setting more
unfoldable pub with_setting : Options → Setting → Options
with_setting o (setting.Path path) = record o { paths = o.paths ++ path ∷ [] }
with_setting o (setting.Define define) = record o { defines = o.defines ++ define ∷ [] }
with_setting o (setting.Undefine name) = record o { undefined = o.undefined ++ name ∷ [] }
with_setting o (setting.Folder path) = record o { folders = o.folders ++ path ∷ [] }
with_setting o setting.Quiet = record o { quiet = true }
with_setting o (setting.Enable e) =
    record o {
      warning = o.warning || e.warning;
      style = o.style || e.style;
      information = o.information || e.information;
      missing_include = o.missing_include || e.missing_include;
    }
with_setting o (setting.List list) = record o { lists = o.lists ++ list ∷ [] }
with_setting o (setting.ErrorExitcode code) = record o { error_exitcode = code }
with_setting o setting.Force = record o { force = true; max_configs = None }
with_setting o (setting.MaxConfigs n) = record o { force = false; max_configs = Some n }
with_setting o setting.Nothing = o

-- a refused word, or what is read with its setting
abbrev pub read_on :
    Options → ℕ → Asked → (Options → Result Options Refused) → Result Options Refused
read_on o word (Err kind) read_others = Err (record { word = word; kind = kind })
read_on o word (Ok s) read_others = read_others (with_setting o s)

-- what words, each with what it takes along, make of options
unfoldable pub read : Options → List Given → Result Options Refused
read o [] = Ok o
read o (g ∷ gs) = read_on o g.word (asked g) (λ p. read p gs)
