use Rattle.std.proofs.Common.{◌≡◌, ◌+◌, length, refl, subst}
use Rattle.std.proofs.lemmas.Result.{err_from_is_err_and}
use Rattle.cx_macro.proofs.ProgressLaws.{finish_bad_paste, finish_too_many, finishes, glued_along, too_many_along}
use Rattle.cx_macro.proofs.calls.finish.Goals as goal

pub returns-in_err-news-clause-fault : goal.returns-in_err-news-clause-fault
returns-in_err-news-clause-fault c =
    let p = err_from_is_err_and c.from_residual.result c.from_residual.ensures.1 in
    rw (p.1, p.2) (λ table. finish_bad_paste table c.args.bound c.args.laid c.args.buffer c.args.call c.args.calls _ c.requires
    (λ n. let q = c.in_err-news.ensures.fault n in (q.0, glued_along _ _ _ _ _ c.args.call.left_out _ c.as_slice.ensures c.as_slice-2.ensures q.1)))

pub returns-in_err-laid-clause-fault : goal.returns-in_err-laid-clause-fault
returns-in_err-laid-clause-fault c =
    let p = err_from_is_err_and c.from_residual-in_err-laid.result c.from_residual-in_err-laid.ensures.1 in
    let m = c.in_ok-news.ensures.replacement in
    rw (p.1, p.2) (λ table. finish_too_many table c.args.bound c.args.laid c.args.buffer c.args.call c.args.calls _ m.0 c.in_ok-news.news.items c.requires
    (glued_along _ _ _ _ _ c.args.call.left_out _ c.as_slice.ensures c.as_slice-2.ensures m.1) m.2
    (λ n. too_many_along c.args.bound c.args.laid c.args.call.name _ _ _ c.as_slice-3.ensures.value (c.in_err-laid.ensures.fault n)))

pub returns-clause-new : goal.returns-clause-new
returns-clause-new c = λ table.
    let m = c.in_ok-news.ensures.replacement in
    finishes table c.args.bound c.args.laid c.args.buffer c.args.call c.args.calls _ m.0 c.in_ok-news.news.items c.requires
    (glued_along _ _ _ _ _ c.args.call.left_out _ c.as_slice.ensures c.as_slice-2.ensures m.1) m.2
    (subst (λ x. c.in_ok-laid.laid ≡ c.args.laid + (length x + 1)) c.as_slice-3.ensures.value c.in_ok-laid.ensures.within.0)
    c.in_ok-laid.ensures.within.1 c.in_ok-put.ensures.0 refl c.in_ok-put.ensures.1 c.in_ok-put.ensures.2 refl
