use Rattle.std.proofs.Common.{refl}
use Rattle.std.proofs.lemmas.Option.{MatchOption-at_some}
use Rattle.std.proofs.lemmas.Result.{IfErr-weaker, IfOk-weaker}
use Rattle.cx_macro.proofs.ProgressLaws.{step_fails, step_takes}
use Rattle.cx_macro.proofs.steps.take.Goals as goal

pub returns-clause-new : goal.returns-clause-new
returns-clause-new c =
    let p = MatchOption-at_some _ _ c.unwrap-token.result c.unwrap-token.ensures c.in_ok-pop.ensures in
    IfOk-weaker c.take_token.result _ _ (λ new h. λ table i.
    step_takes table c.args.bound c.unwrap-token.result c.args.state _ new refl p.1 refl p.0 p.2 refl (h table (i _ _ p.0))) c.take_token.ensures.new

pub returns-clause-fault : goal.returns-clause-fault
returns-clause-fault c =
    let p = MatchOption-at_some _ _ c.unwrap-token.result c.unwrap-token.ensures c.in_ok-pop.ensures in
    IfErr-weaker c.take_token.result _ _ (λ fault h. λ table i.
    step_fails table c.args.bound c.unwrap-token.result c.args.state _ fault refl p.1 refl p.0 p.2 refl (h table (i _ _ p.0))) c.take_token.ensures.fault
