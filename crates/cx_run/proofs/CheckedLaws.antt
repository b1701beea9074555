-- The report of units, by what was told of them.
use Rattle.std.proofs.Common.{◌≡◌, ℕ, ◌+◌, ◌<◌, ◌≤◌, List, [], ◌∷◌, ◌++◌, Bool, true, false, cond, IfOk, MatchOption, Option, Some, None, Result, Ok, Err, get_or, length, min, nat_lt, take, codes, refl, sym, ap, subst, ◌∙◌}
use Rattle.std.specs.List.{AllZip}
use Rattle.std.proofs.lemmas.List.{take_min}
use Rattle.std.proofs.Math.Nat.{min_comm}
use Rattle.cx_base.specs.declared.answers.SeenEntry.{SeenEntry}
use Rattle.cx_base.specs.declared.finding.Finding.{Finding}
use Rattle.cx_finding.specs.Kinds.{limit_passed}
use Rattle.cx_options.specs.declared.answer.Options.{Options}
use Rattle.cx_asking.specs.Wishes.{units_of}
use Rattle.cx_unit.specs.declared.report.UnitReport.{UnitReport}
use Rattle.cx_unit.proofs.ConfiguredLaws.{zip_end, zip_next}
use Rattle.cx_unit.specs.Units.{Ground, IsUnitReport}
use Rattle.cx_run.specs.declared.limits.RunLimits.{RunLimits}
use Rattle.cx_run.specs.declared.report.Cause.TheVariants.{NotBuilt}
use Rattle.cx_run.specs.declared.report.Report.{Report}
use Rattle.cx_run.specs.Findings.{with_findings}
use Rattle.cx_run.specs.Shapes.Told.{AreTold, AreToldBy, HasUntold, HasUntoldBy, IsToldOf, IsUntold}
use Rattle.cx_run.specs.Reports.{IsChecked, IsForeignAmong, IsGround, checked_units, done_report, is_done, is_foreign, nowhere, paths_of, refusal_report, units_finding}

-- What is told of units, one after another.

module _ (g : Ground) (units : List (List ℕ)) where
  pub told_none : AreTold g (take 0 units) []
  unfolding AreTold
  told_none = tt

  pub told_next : (reports more : List UnitReport) (n : ℕ) (path : List ℕ) (report : UnitReport) → n < length units → get_or units n path ≡ path
      → AreTold g (take n units) reports → IsToldOf g path report → more ≡ reports ++ report ∷ [] → AreTold g (take (n + 1) units) more
  unfolding AreTold IsToldOf
  told_next reports more n path report below at all r e = zip_next (IsUnitReport g) units reports more n path report below at all r e

  pub told_end : (reports : List UnitReport) (n : ℕ) → length units ≤ n → AreTold g (take n units) reports → AreTold g units reports
  unfolding AreTold
  told_end reports n past all = zip_end (IsUnitReport g) units reports n past all

  pub untold_here : (n : ℕ) (path : List ℕ) → n < length units → get_or units n path ≡ path → IsUntold g path → HasUntold g units
  unfolding IsUntold HasUntold
  untold_here n path below at foreign = (path, (n, below, at), foreign)

-- one finding, or none, has none twice
pub first_alone : (most units : ℕ) → with_findings [] (units_finding most units) ≡ units_finding most units
unfolding units_finding
first_alone most units = by (nat_lt most units)
  where
    one : List Finding
    one = limit_passed (codes "units") most (most + 1) nowhere ∷ []

    by : (b : Bool) → with_findings [] (cond b one []) ≡ cond b one []
    by true = refl
    by false = refl

pub on_ok : {A E : Type 0} {P Q : A → Type 0} (r : Result A E) → ((a : A) → P a → Q a) → IfOk r P → IfOk r Q
on_ok (Ok a) gives p = gives a p
on_ok (Err e) gives p = tt

module _ (limits : RunLimits) (options : Options) (seen : List SeenEntry) where
  -- what is told by a ground is told by what was seen
  pub told_by : {E : Type 0} (g : Ground) (units : List (List ℕ)) (r : Result (Option (List UnitReport)) E) → IsGround limits options seen g
      → IfOk r (λ o. MatchOption o (HasUntold g units) (AreTold g units))
      → IfOk r (λ o. MatchOption o (HasUntoldBy limits options seen units) (AreToldBy limits options seen units))
  unfolding AreTold HasUntold AreToldBy HasUntoldBy
  told_by g units (Err e) stands told = tt
  told_by g units (Ok None) stands foreign = (g, stands, foreign)
  told_by g units (Ok (Some reports)) stands all = (g, stands, all)

  module _ (all checked : List (List ℕ)) (units : all ≡ units_of limits.asking seen options)
      (front : checked ≡ take (min (length all) limits.units) all) where
    checked_are : checked ≡ checked_units limits options seen
    checked_are =
        front ∙ ap (λ n. take n all) (min_comm (length all) limits.units) ∙ take_min limits.units all
        ∙ ap (take limits.units) units

    pub not_built : (report : Report) → HasUntoldBy limits options seen checked
        → report ≡ refusal_report NotBuilt (codes "not built yet.") → IsChecked limits options seen report
    unfolding HasUntoldBy
    not_built report foreign e =
        subst (IsChecked limits options seen) (sym e)
        (is_foreign foreign.0 foreign.1 (subst (IsForeignAmong foreign.0) checked_are foreign.2))

    pub done : (files : List (List ℕ)) (first : List Finding) (reports : List UnitReport) (report : Report)
        → AreToldBy limits options seen checked reports → files ≡ paths_of seen → first ≡ units_finding limits.units (length all)
        → report ≡ done_report options files first reports → IsChecked limits options seen report
    unfolding AreToldBy
    done files first reports report told f u e =
        subst (IsChecked limits options seen) (sym (e ∙ ap (λ fs. done_report options fs first reports) f
        ∙ ap (λ us. done_report options (paths_of seen) us reports) (u ∙ ap (λ us. units_finding limits.units (length us)) units)))
        (is_done told.0 reports told.1 (subst (λ us. AllZip (IsUnitReport told.0) us reports) checked_are told.2))
