-- The findings of files and configurations.
use Rattle.std.specs.Prelude.{ℕ, pos, List, [], ◌∷◌, Bool, if◌then◌else◌}
use Rattle.cx_base.specs.Findings.{id_severity}
use Rattle.cx_base.specs.declared.finding.Finding.{Finding}
use Rattle.cx_base.specs.declared.finding.Word.{Word}
use Rattle.cx_base.specs.declared.finding.Word.TheVariants.{Text, Number}
use Rattle.cx_base.specs.declared.id.Id.{Id}
use Rattle.cx_base.specs.declared.id.Id.TheVariants.{SyntaxError, PreprocessorErrorDirective, UnitLimit, ReadFault, MissingInclude, MissingIncludeSystem}
use Rattle.cx_base.specs.declared.place.Place.{Place}

-- a finding of a kind at a place, with the severity of the kind and no other places
abbrev pub finding : Id → Place → List Word → Finding
finding id at words =
    record { id = id; severity = id_severity id; place = at; others = []; words = words }

-- a text that does not read, for a reason
abbrev pub syntax_error : List ℕ → Place → Finding
syntax_error reason at = finding SyntaxError at (Text reason ∷ [])

-- a limit that was passed: its name, the most that it allows, and the first number past it
abbrev pub limit_passed : List ℕ → ℕ → ℕ → Place → Finding
limit_passed limit most counted at =
    finding UnitLimit at (Text limit ∷ Number (pos most) ∷ Number (pos counted) ∷ [])

-- a file that could not be read, for a unit whose file has this number
abbrev pub read_fault : List ℕ → ℕ → Finding
read_fault path unit =
    finding ReadFault (record { file = unit; line = 0; column = 0 }) (Text path ∷ [])

-- a directive `error` (C11 6.10.5)
abbrev pub error_directive : List ℕ → Place → Finding
error_directive text at = finding PreprocessorErrorDirective at (Text text ∷ [])

abbrev pub id_of_include : Bool → Id
id_of_include quoted = if quoted then MissingInclude else MissingIncludeSystem

-- an include that leads to no file
abbrev pub missing_include : List ℕ → Bool → Place → Finding
missing_include name quoted at = finding (id_of_include quoted) at (Text name ∷ [])
