use Rattle.std.proofs.Common.{◌≡◌, ◌+◌, length, refl, subst}
use Rattle.std.proofs.lemmas.Result.{err_from_is_err_and}
use Rattle.cx_macro.proofs.ProgressLaws.{object_fails, object_too_long, takes_object, too_many_along}
use Rattle.cx_macro.proofs.steps.replace.Goals as goal

pub returns-in_err-news-clause-fault : goal.returns-in_err-news-clause-fault
returns-in_err-news-clause-fault c =
    let p = err_from_is_err_and c.from_residual-in_err-news.result c.from_residual-in_err-news.ensures.1 in
    rw (p.1, p.2) (λ table u. object_fails table c.args.bound c.args.name c.args.state _ _ u c.in_err-news.ensures.fault)

pub returns-in_err-state-clause-fault : goal.returns-in_err-state-clause-fault
returns-in_err-state-clause-fault c =
    let p = err_from_is_err_and c.from_residual-in_err-state.result c.from_residual-in_err-state.ensures.1 in
    let m = c.in_ok-news.ensures.replacement in
    rw (p.1, p.2) (λ table u. object_too_long table c.args.bound c.args.name c.args.state _ _ c.in_ok-hide.hide m.0 c.in_ok-news.news.items u m.1
    c.in_ok-hide.ensures m.2 (λ n. too_many_along c.args.bound c.args.state.laid c.args.name _ _ _ c.as_slice.ensures.value (c.in_err-state.ensures.fault n)))

pub returns-clause-new : goal.returns-clause-new
returns-clause-new c = λ table u.
    let m = c.in_ok-news.ensures.replacement in
    takes_object table c.args.bound c.args.name c.args.state _ _ c.in_ok-hide.hide m.0 c.in_ok-news.news.items u m.1 c.in_ok-hide.ensures m.2
    (subst (λ x. c.in_ok-state.field-0 ≡ c.args.state.laid + (length x + 1)) c.as_slice.ensures.value c.in_ok-state.ensures.within.0)
    c.in_ok-state.ensures.within.1 c.in_ok-put.ensures.0 refl c.in_ok-put.ensures.1 c.in_ok-put.ensures.2 refl
