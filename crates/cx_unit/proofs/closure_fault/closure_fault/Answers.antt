use Rattle.std.proofs.Common.{◌≡◌, ◌∙◌, None, Some, ap, get_or, sym, unwrap_or}
use Rattle.std.specs.Option.{option_copied}
use Rattle.cx_base.specs.declared.answers.Answer.TheVariants.{Absent}
use Rattle.cx_asking.specs.Wishes.{answer_in}
use Rattle.cx_unit.specs.Closures.{file_fault, number_in}
use Rattle.cx_unit.proofs.ClosureLaws.{fault_here}
use Rattle.cx_unit.proofs.closure_fault.closure_fault.Goals as goal

pub returns-in-Some : goal.returns-in-Some
returns-in-Some c =
    let limits = c.args.limits.now in
    let seen = c.args.answers.now in
    let faults = c.args.faults.now in
    let path = c.path-item.result in
    let before = c.loop-path.before in
    let number = c.in_ok-number.ensures in
    let fault = c.fault_at-fault.ensures ∙ ap (λ k. get_or faults k None) number in
    let given = unwrap_or (option_copied c.get-answer.result) Absent in
    let answer : given ≡ answer_in seen path = ap (λ o. unwrap_or o Absent) c.get-answer.ensures in
    sym (fault_here limits seen faults c.args.unit before c.args.files.now c.loop-path.path-index path c.loop-path-test.true c.path-item.is c.in-Some.found
    (sym c.in-Some.is ∙ c.in_ok-found.ensures
    ∙ ap (λ k. file_fault limits c.args.unit k before c.fault_at-fault.result given) number
    ∙ ap (λ f. file_fault limits c.args.unit (number_in seen path) before f given) fault
    ∙ ap (λ a. file_fault limits c.args.unit (number_in seen path) before (get_or faults (number_in seen path) None) a) answer))
    ∙ c.loop-path.invariant
