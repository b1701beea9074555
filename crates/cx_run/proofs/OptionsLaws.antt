-- The report of options, by what they lead to.
use Rattle.std.proofs.Common.{◌≡◌, ◌≢◌, ◌==◌, ℕ, List, [], ◌∷◌, Some, None, true, false, codes, length, refl, sym, subst, arith}
use Rattle.std.proofs.lemmas.Bool.Decides.{nat_tests}
use Rattle.cx_base.specs.declared.answers.SeenEntry.{SeenEntry}
use Rattle.cx_options.specs.declared.answer.Options.{Options}
use Rattle.cx_asking.specs.declared.list_fault.ListFault.{ListFault}
use Rattle.cx_asking.specs.Wishes.{list_fault, units_of}
use Rattle.cx_run.specs.declared.limits.RunLimits.{RunLimits}
use Rattle.cx_run.specs.declared.report.Cause.TheVariants.{NoInput}
use Rattle.cx_run.specs.declared.report.Report.{Report}
use Rattle.cx_run.specs.Reports.{IsChecked, IsOptionsReport, is_checked, is_empty, is_refused_list, list_report, refusal_report}

-- a list of no members is empty
pub nothing_is : (units : List (List ℕ)) (n : ℕ) → n ≡ length units → true ≡ (n == 0) → units ≡ []
nothing_is [] n l e = refl
nothing_is (unit ∷ units) n l e = absurd (grind (arith, nat_tests, l, e))

-- and one with members is not
pub something_is : (units : List (List ℕ)) (n : ℕ) → n ≡ length units → false ≡ (n == 0) → units ≢ []
something_is [] n l e = absurd (grind (arith, nat_tests, l, e))
something_is (unit ∷ units) n l e = λ none. absurd cc

module _ (limits : RunLimits) (options : Options) (seen : List SeenEntry) where
  pub by_list : (f : ListFault) (report : Report) → list_fault seen options.lists ≡ Some f → report ≡ list_report f
      → IsOptionsReport limits options seen report
  by_list f report refused e = subst (IsOptionsReport limits options seen) (sym e) (is_refused_list f refused)

  pub by_nothing : (report : Report) → list_fault seen options.lists ≡ None → units_of limits.asking seen options ≡ []
      → report ≡ refusal_report NoInput (codes "could not find any file to check.") → IsOptionsReport limits options seen report
  by_nothing report fine none e = subst (IsOptionsReport limits options seen) (sym e) (is_empty fine none)

  pub by_units : (report : Report) → list_fault seen options.lists ≡ None → units_of limits.asking seen options ≢ []
      → IsChecked limits options seen report → IsOptionsReport limits options seen report
  by_units report fine some checked = is_checked report fine some checked
