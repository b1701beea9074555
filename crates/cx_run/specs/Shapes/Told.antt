-- What is told of units, in words that hide their meaning from the search: joined to `IsChecked` of
-- Reports by `checked_report`.
use Rattle.std.specs.Prelude.{ℕ, List}
use Rattle.std.specs.List.{AllZip}
use Rattle.cx_base.specs.declared.answers.SeenEntry.{SeenEntry}
use Rattle.cx_options.specs.declared.answer.Options.{Options}
use Rattle.cx_unit.specs.declared.report.UnitReport.{UnitReport}
use Rattle.cx_unit.specs.Units.{Ground, IsForeignUnit, IsUnitReport}
use Rattle.cx_run.specs.declared.limits.RunLimits.{RunLimits}
use Rattle.cx_run.specs.Reports.{IsForeignAmong, IsGround}

-- what is told of a unit
unfoldable pub IsToldOf : Ground → List ℕ → UnitReport → Type 0
IsToldOf g path report = IsUnitReport g path report

-- a unit of which nothing is told
unfoldable pub IsUntold : Ground → List ℕ → Type 0
IsUntold g path = IsForeignUnit g path

-- what is told of units
unfoldable pub AreTold : Ground → List (List ℕ) → List UnitReport → Type 0
AreTold g units reports = AllZip (IsUnitReport g) units reports

-- one of the units has nothing told of it
unfoldable pub HasUntold : Ground → List (List ℕ) → Type 0
HasUntold g units = IsForeignAmong g units

-- what is told of units by what was seen
unfoldable pub AreToldBy
    : RunLimits → Options → List SeenEntry → List (List ℕ) → List UnitReport → Type 0
AreToldBy limits options seen units reports =
    (g : Ground) × IsGround limits options seen g × AllZip (IsUnitReport g) units reports

-- by what was seen, one of the units has nothing told of it
unfoldable pub HasUntoldBy : RunLimits → Options → List SeenEntry → List (List ℕ) → Type 0
HasUntoldBy limits options seen units =
    (g : Ground) × IsGround limits options seen g × IsForeignAmong g units
