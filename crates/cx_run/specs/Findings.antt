-- Which findings are told, and with which status.
use Rattle.std.specs.Prelude.{ℕ, List, Bool, true, false, ◌&&◌, drop, if◌then◌else◌, length}
use Rattle.std.specs.List.{list_any}
use Rattle.indexmap.specs.IndexSet.{insert_all}
use Rattle.cx_base.specs.declared.finding.Finding.{Finding}
use Rattle.cx_base.specs.declared.id.Id.{Id}
use Rattle.cx_base.specs.declared.id.Id.TheVariants.{MissingInclude, MissingIncludeSystem}
use Rattle.cx_base.specs.declared.id.Severity.{Severity}
use Rattle.cx_base.specs.declared.id.Severity.TheVariants.{Error, Warning, Style, Information}
use Rattle.cx_options.specs.declared.answer.Options.{Options}
use Rattle.cx_finding.specs.Distinct.{same}

-- whether findings for information of a kind are switched on
abbrev pub is_informed : Options → Id → Bool
is_informed options MissingInclude = options.missing_include
is_informed options MissingIncludeSystem = options.missing_include
is_informed options other = options.information

-- whether a finding is switched on; errors always are (the Cppcheck manual, "Severities")
abbrev pub is_switched_on : Options → Severity → Id → Bool
is_switched_on options Error id = true
is_switched_on options Warning id = options.warning
is_switched_on options Style id = options.style
is_switched_on options Information id = is_informed options id

abbrev pub is_enabled : Options → Finding → Bool
is_enabled options found = is_switched_on options found.severity found.id

-- findings with others, each where it first stands
abbrev pub with_findings : List Finding → List Finding → List Finding
with_findings told findings = insert_all same told findings

-- those of the findings that were not told, each once
abbrev pub new_findings : List Finding → List Finding → List Finding
new_findings told findings = drop (length told) (with_findings told findings)

abbrev pub is_grave : Severity → Bool
is_grave Information = false
is_grave _ = true

-- The status of a run that told these findings: that of `--error-exitcode=` where one that is
-- printed is more than information.
unfoldable pub exit_status : Options → List Finding → ℕ
exit_status options told =
    if list_any (λ f. is_enabled options f && is_grave f.severity) told
    then options.error_exitcode else 0
