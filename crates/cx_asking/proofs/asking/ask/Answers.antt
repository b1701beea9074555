use Rattle.std.proofs.Common.{ap, subst, sym, ◌∙◌}
use Rattle.cx_asking.specs.Asking.{AreShelved}
use Rattle.cx_asking.proofs.RestLaws.{on_err}
use Rattle.cx_asking.proofs.WholeLaws.{asked_only, only_whole, whole_answers, whole_asking}
use Rattle.cx_asking.proofs.asking.ask.Goals as goal

pub returns-in_err-asked-clause-reads : goal.returns-in_err-asked-clause-reads
returns-in_err-asked-clause-reads g c =
    on_err c.from_residual.result
    (asked_only c.args.limits.now c.args.options.now _ _ c.in_err-asked.ensures.cut)

pub returns-in_err-folders-clause-reads : goal.returns-in_err-folders-clause-reads
returns-in_err-folders-clause-reads g c =
    on_err c.from_residual-in_err-folders.result
    (only_whole c.args.limits.now c.args.options.now c.in_ok-asked.asked _ _ c.in_ok-asked.ensures.all
    (subst (λ a. AreShelved 0 a.seen a.shelf) c.asked.view_is c.asked.invariant.files))

pub returns-clause-asked : goal.returns-clause-asked
returns-clause-asked g c =
    whole_asking c.args.limits.now c.args.options.now c.in_ok-asked.asked _ _ c.in_ok-asked.ensures.all
    c.into_parts-answers.result.0 c.with_folders.result.files c.into_parts-answers.ensures.answers
    (ap (λ s. s.files) c.with_folders.ensures ∙ c.into_parts-answers.ensures.shelf)
    (subst (AreShelved 0 c.into_parts-answers.result.0) (sym (ap (λ s. s.files) c.with_folders.ensures)) c.into_parts-answers.ensures.shelved)

pub returns-clause-answers : goal.returns-clause-answers
returns-clause-answers g c =
    whole_answers c.args.limits.now c.args.options.now c.in_ok-asked.asked _ _ c.in_ok-asked.ensures.all
    c.into_parts-answers.result.0 c.with_folders.result.files c.into_parts-answers.ensures.answers
    (ap (λ s. s.files) c.with_folders.ensures ∙ c.into_parts-answers.ensures.shelf)
