use Rattle.std.proofs.Common.{[], MatchOption, ap, length, subst, sym, take, ◌∙◌}
use Rattle.cx_run.specs.Findings.{with_findings}
use Rattle.cx_run.specs.Reports.{paths_of}
use Rattle.cx_run.specs.Shapes.Told.{AreToldBy, HasUntoldBy}
use Rattle.cx_run.proofs.CheckedLaws.{done, first_alone, not_built, on_ok}
use Rattle.cx_run.proofs.checked.checked_report.Goals as goal

pub returns-in_default : goal.returns-in_default
returns-in_default c =
    let checked = take c.min.result c.args.units.now in
    on_ok c.refusal_report.result
    (λ report e. not_built c.args.limits.now c.args.options.now c.args.gathering.now.answers c.args.units.now checked c.requires.units
    (ap (λ n. take n c.args.units.now) c.min.ensures) report
    (subst (λ r. MatchOption r (HasUntoldBy c.args.limits.now c.args.options.now c.args.gathering.now.answers checked)
    (AreToldBy c.args.limits.now c.args.options.now c.args.gathering.now.answers checked)) c.in_default.is c.in_ok-reports.ensures)
    e)
    c.refusal_report.ensures

pub done_report-requires : goal.done_report-requires
done_report-requires c =
    let is = c.as_slice-2.ensures ∙ c.in_ok-first.ensures in
    ap (with_findings []) is ∙ first_alone c.args.limits.now.units (length c.args.units.now) ∙ sym is

pub returns : goal.returns
returns c =
    let checked = take c.min.result c.args.units.now in
    on_ok c.done_report.result
    (λ report e. done c.args.limits.now c.args.options.now c.args.gathering.now.answers c.args.units.now checked c.requires.units
    (ap (λ n. take n c.args.units.now) c.min.ensures) c.as_slice.result.now c.as_slice-2.result.now c.as_slice-3.result.now report
    (subst (AreToldBy c.args.limits.now c.args.options.now c.args.gathering.now.answers checked) (sym c.as_slice-3.ensures)
    (subst (λ r. MatchOption r (HasUntoldBy c.args.limits.now c.args.options.now c.args.gathering.now.answers checked)
    (AreToldBy c.args.limits.now c.args.options.now c.args.gathering.now.answers checked)) c.in-Some.is c.in_ok-reports.ensures))
    (c.as_slice.ensures ∙ c.in_ok-files.ensures ∙ ap paths_of c.as_slice-seen.ensures)
    (c.as_slice-2.ensures ∙ c.in_ok-first.ensures) e)
    c.done_report.ensures
