use Rattle.std.proofs.Common.{refl}
use Rattle.std.proofs.lemmas.Result.{err_from_is_err_and}
use Rattle.cx_tokens.specs.Nodes.{tokens}
use Rattle.cx_macro.proofs.AnswerLaws.{list_within}
use Rattle.cx_macro.proofs.macros.Macros.expansion.Goals as goal

pub returns-in_err-list-clause-fault : goal.returns-in_err-list-clause-fault
returns-in_err-list-clause-fault c =
    let p = err_from_is_err_and c.from_residual-in_err-list.result c.from_residual-in_err-list.ensures.1 in
    rw (p.1, p.2) (λ n. list_within c.args.self.now c.args.bound c.args.laid c.in_ok-first.first (tokens c.args.list.nodes) _ _ _ c.in_ok-first.ensures.within.0
    c.in_ok-first.ensures.within.1 refl refl (c.in_err-list.ensures.fault n))

pub returns-clause-ok : goal.returns-clause-ok
returns-clause-ok c =
    list_within c.args.self.now c.args.bound c.args.laid c.in_ok-first.first (tokens c.args.list.nodes) _ _ _ c.in_ok-first.ensures.within.0
    c.in_ok-first.ensures.within.1 refl refl c.in_ok-list.ensures.outcome
