-- Whatever the words ask, there is a report.
use Rattle.std.proofs.Common.{◌≡◌, ℕ, zero, suc, ◌<◌, Contains, List, [], ◌∷◌, Option, Some, None, Result, Ok, Err, length, refl, sym, ◌∙◌, ⊎_elim, arith}
use Rattle.std.specs.List.{AllZip}
use Rattle.std.proofs.lemmas.Option.{slice_get_cases}
use Rattle.cx_base.specs.declared.answers.SeenEntry.{SeenEntry}
use Rattle.cx_options.specs.declared.answer.Options.{Options}
use Rattle.cx_options.specs.Command.{Refused, command}
use Rattle.cx_asking.specs.declared.list_fault.ListFault.{ListFault}
use Rattle.cx_asking.specs.Wishes.{list_fault, units_of}
use Rattle.cx_unit.specs.declared.report.UnitReport.{UnitReport}
use Rattle.cx_unit.specs.Units.{Ground, IsForeignUnit, IsUnitReport}
use Rattle.cx_run.specs.declared.limits.RunLimits.{RunLimits}
use Rattle.cx_run.specs.declared.report.Report.{Report}
use Rattle.cx_run.specs.Reports.{IsChecked, IsOptionsReport, IsReport, checked_units, is_bad_word, is_checked, is_done, is_empty, is_foreign, is_read, is_refused_list}
use Rattle.cx_run.proofs.GroundLaws.{some_ground}

-- what laws say of units and of words
abbrev pub SomeUnitReport : Type 0
SomeUnitReport = (g : Ground) (path : List ℕ) → ((report : UnitReport) → ¬ IsUnitReport g path report) → ¬ IsForeignUnit g path → ⊥

abbrev pub RefusedWithin : Type 0
RefusedWithin = (words : List (List ℕ)) (refused : Refused) → command words ≡ Err refused → refused.word < length words

module _ (some_unit : SomeUnitReport) where
  -- units of which none is foreign have reports
  unit_reports : (g : Ground) (paths : List (List ℕ)) → ((path : List ℕ) → Contains paths path → ¬ IsForeignUnit g path)
      → ((units : List UnitReport) → ¬ AllZip (IsUnitReport g) paths units) → ⊥
  unit_reports g [] own refuted = refuted [] tt
  unit_reports g (path ∷ paths) own refuted =
      some_unit g path
      (λ report told. unit_reports g paths
      (λ other c. own other (suc c.0, omega (arith, c.1), c.2))
      (λ units all. refuted (report ∷ units) (told, all)))
      (own path (zero, omega arith, refl))

  module _ (limits : RunLimits) (options : Options) (seen : List SeenEntry) where
    some_checked : ((report : Report) → ¬ IsChecked limits options seen report) → ⊥
    some_checked refuted =
        let g = some_ground limits options seen in
        unit_reports g.0 (checked_units limits options seen)
        (λ path c foreign. refuted _ (is_foreign g.0 g.1 (path, c, foreign)))
        (λ units all. refuted _ (is_done g.0 units g.1 all))

    by_units : (units : List (List ℕ)) → units_of limits.asking seen options ≡ units → list_fault seen options.lists ≡ None
        → ((report : Report) → ¬ IsOptionsReport limits options seen report) → ⊥
    by_units [] u f refuted = refuted _ (is_empty f u)
    by_units (path ∷ paths) u f refuted =
        some_checked (λ report c. refuted report (is_checked report f (λ none. not_none path paths (sym u ∙ none)) c))
      where
        not_none : (x : List ℕ) (xs : List (List ℕ)) → x ∷ xs ≡ [] → ⊥
        not_none x xs e = absurd cc

    by_fault : (fault : Option ListFault) → list_fault seen options.lists ≡ fault
        → ((report : Report) → ¬ IsOptionsReport limits options seen report) → ⊥
    by_fault None f refuted = by_units (units_of limits.asking seen options) refl f refuted
    by_fault (Some fault) f refuted = refuted _ (is_refused_list fault f)

  module _ (within : RefusedWithin) (limits : RunLimits) (words : List (List ℕ)) (seen : List SeenEntry)
      (refuted : (report : Report) → ¬ IsReport limits words seen report) where
    by_command : (c : Result Options Refused) → command words ≡ c → ⊥
    by_command (Err refused) e =
        ⊎_elim
        (λ found. refuted _ (is_bad_word refused.word refused.kind found.0 e found.2))
        (λ past. absurd (let below = within words refused e in omega (arith, below, past.0)))
        (slice_get_cases words refused.word).1
    by_command (Ok options) e =
        by_fault limits options seen (list_fault seen options.lists) refl (λ report r. refuted report (is_read options report e r))

    pub some_report : ⊥
    some_report = by_command (command words) refl
