-- The line of a finding: `{file}:{line}:{column}: {severity}: {message} [{id}]`.
use Rattle.std.specs.Prelude.{ℕ, List, [], ◌++◌, Option, Some, None, codes, decimal, slice_get}
use Rattle.std.specs.Fmt.{signed_decimal}
use Rattle.cx_base.specs.declared.finding.Finding.{Finding}
use Rattle.cx_base.specs.declared.finding.Word.{Word}
use Rattle.cx_base.specs.declared.finding.Word.TheVariants.{Text, Number}
use Rattle.cx_base.specs.declared.id.Id.{Id}
use Rattle.cx_base.specs.declared.id.Id.TheVariants as id
use Rattle.cx_base.specs.declared.place.Place.{Place}
use Rattle.cx_base.specs.Findings.{id_name, severity_name}

-- a place whose file is not in the list of paths is no place
abbrev pub place_in : Option (List ℕ) → Place → List ℕ
place_in None place = codes "nofile:0:0"
place_in (Some file) place =
    file ++ codes ":" ++ decimal place.line ++ codes ":" ++ decimal place.column

abbrev pub word_text : Word → List ℕ
word_text (Text text) = text
word_text (Number number) = signed_decimal number

-- the word of a number among words, counted from 0; where there is none, nothing
unfoldable pub word_at : List Word → ℕ → List ℕ
word_at words n = text_in (slice_get words n)
  where
    text_in : Option Word → List ℕ
    text_in None = []
    text_in (Some word) = word_text word

-- The message of a finding, by its kind and its words. The kinds that no analysis gives yet have
-- none.
unfoldable pub message : Id → List Word → List ℕ
message id.UninitVar words = codes "Uninitialized variable: " ++ word_at words 0
message id.ZeroDiv words = codes "Division by zero."
message id.IntegerOverflow words =
    codes "Signed integer overflow for expression '" ++ word_at words 0 ++ codes "'."
message id.SyntaxError words = codes "syntax error: " ++ word_at words 0
message id.PreprocessorErrorDirective words = codes "#error " ++ word_at words 0
message id.UnitLimit words =
    codes "Limit reached: " ++ word_at words 0 ++ codes " " ++ word_at words 1
    ++ codes ", counted " ++ word_at words 2 ++ codes "."
message id.ReadFault words = codes "File could not be read: " ++ word_at words 0
message id.MissingInclude words =
    codes "Include file: \"" ++ word_at words 0 ++ codes "\" not found."
message id.MissingIncludeSystem words =
    codes "Include file: <" ++ word_at words 0 ++ codes "> not found."
message other words = []

-- the line of a finding, with a newline after it
abbrev pub finding_line : List (List ℕ) → Finding → List ℕ
finding_line files finding =
    place_in (slice_get files finding.place.file) finding.place
    ++ codes ": " ++ severity_name finding.severity ++ codes ": "
    ++ message finding.id finding.words ++ codes " [" ++ id_name finding.id ++ codes "]\n"
