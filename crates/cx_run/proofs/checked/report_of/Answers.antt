use Rattle.std.proofs.Common.{ap, sym, ◌∙◌}
use Rattle.cx_asking.specs.Wishes.{list_fault}
use Rattle.cx_run.proofs.CheckedLaws.{on_ok}
use Rattle.cx_run.proofs.OptionsLaws.{by_list, by_nothing, by_units, nothing_is, something_is}
use Rattle.cx_run.proofs.checked.report_of.Goals as goal

pub returns-in-Some : goal.returns-in-Some
returns-in-Some c =
    let fault = ap (list_fault c.args.gathering.now.answers) (sym c.as_slice.ensures) ∙ sym c.in_ok-refused.ensures ∙ c.in-Some.is in
    on_ok c.list_report.result
    (λ report e. by_list c.args.limits.now c.args.options.now c.args.gathering.now.answers c.in-Some.refused report fault e)
    c.list_report.ensures

pub returns-then-is_empty : goal.returns-then-is_empty
returns-then-is_empty c =
    let fault = ap (list_fault c.args.gathering.now.answers) (sym c.as_slice.ensures) ∙ sym c.in_ok-refused.ensures ∙ c.in_default.is in
    on_ok c.refusal_report.result
    (λ report e. by_nothing c.args.limits.now c.args.options.now c.args.gathering.now.answers report fault
    (sym c.in_ok-units.ensures ∙ nothing_is c.in_ok-units.units.items _ c.in_ok-units.units.ok.0 c.if-is_empty.ensures) e)
    c.refusal_report.ensures

pub returns : goal.returns
returns c =
    let fault = ap (list_fault c.args.gathering.now.answers) (sym c.as_slice.ensures) ∙ sym c.in_ok-refused.ensures ∙ c.in_default.is in
    on_ok c.checked_report.result
    (λ report checked. by_units c.args.limits.now c.args.options.now c.args.gathering.now.answers report fault
    (λ none. something_is c.in_ok-units.units.items _ c.in_ok-units.units.ok.0 c.if-is_empty.ensures (c.in_ok-units.ensures ∙ none)) checked)
    c.checked_report.ensures
