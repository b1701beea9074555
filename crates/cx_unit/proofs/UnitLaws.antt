-- What is told of a unit, by what was found on the way.
use Rattle.std.proofs.Common.{◌≡◌, ◌<◌, ◌≤◌, ℕ, List, [], ◌∷◌, None, Some, ap, arith, length, map, subst, sym, ◌∙◌}
use Rattle.std.specs.List.{AllZip}
use Rattle.cx_base.specs.declared.finding.Finding.{Finding}
use Rattle.cx_pre.specs.declared.config.Config.{Config}
use Rattle.cx_unit.specs.declared.report.UnitReport.{UnitReport}
use Rattle.cx_unit.specs.declared.told.Told.{Told}
use Rattle.cx_unit.specs.Names.{config_name, progress_line}
use Rattle.cx_unit.specs.Told.{IsTold, findings_of}
use Rattle.cx_unit.specs.Units.{Ground, HasForeign, IsForeignUnit, IsUnitReport, configurations_of, configured, configured_report, faulty, files_fault, plain_report, shelf_number, unread, unreadable_files}

module _ (g : Ground) (path : List ℕ) where
  pub unread_told : (found : List Finding) (report : UnitReport) → found ≡ unreadable_files g path → 0 < length found
      → report ≡ plain_report path found → IsUnitReport g path report
  unread_told [] report e l r = absurd (omega (arith, l))
  unread_told (first ∷ more) report e l r = subst (IsUnitReport g path) (sym r) (unread first more (sym e))

  pub faulty_told : (found : Finding) (report : UnitReport) → unreadable_files g path ≡ [] → files_fault g path ≡ Some found
      → report ≡ plain_report path (found ∷ []) → IsUnitReport g path report
  faulty_told found report u f r = subst (IsUnitReport g path) (sym r) (faulty found u f)

  module _ (number : ℕ) (configs : List Config) (n : number ≡ shelf_number g path) (c : configs ≡ configurations_of g path)
      (u : unreadable_files g path ≡ []) (f : files_fault g path ≡ None) where
    pub configured_told : (tolds : List Told) (report : UnitReport) → AllZip (IsTold g.shelf number) configs tolds
        → report.progress ≡ map (λ c. progress_line path (config_name g.options c.names)) configs → report.findings ≡ findings_of tolds
        → IsUnitReport g path report
    configured_told tolds report all p t =
        subst (IsUnitReport g path) (sym is) (configured tolds u f (subst (λ cs. AllZip (IsTold g.shelf (shelf_number g path)) cs tolds) c
        (subst (λ k. AllZip (IsTold g.shelf k) configs tolds) n all)))
      where
        is : report ≡ configured_report g path tolds
        is = let lines = p ∙ ap (map (λ c. progress_line path (config_name g.options c.names))) c in
            λ i. record { progress = lines i; findings = t i }

    pub foreign_told : HasForeign g.shelf number configs → IsForeignUnit g path
    foreign_told h = record {
      read = u;
      sound = f;
      foreign = subst (HasForeign g.shelf (shelf_number g path)) c (subst (λ k. HasForeign g.shelf k configs) n h);
    }

-- a list of no members is empty, and so is one that is the same
pub none_read : (found all : List Finding) (n : ℕ) → found ≡ all → n ≡ length found → n ≤ 0 → all ≡ []
none_read [] all n e l h = sym e
none_read (first ∷ more) all n e l h = absurd (omega (arith, l, h))
