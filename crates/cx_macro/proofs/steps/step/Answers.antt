use Rattle.std.proofs.Common.{◌∙◌, sym}
use Rattle.std.proofs.lemmas.Option.{MatchOption-at_none, MatchOption-at_some}
use Rattle.cx_macro.proofs.ProgressLaws.{first_token}
use Rattle.cx_macro.proofs.steps.step.Goals as goal

pub returns-in_ok-stay-in-None-clause-new : goal.returns-in_ok-stay-in-None-clause-new
returns-in_ok-stay-in-None-clause-new c =
    let f = first_token c.args.state.buffer.ahead (sym c.is_empty.ensures ∙ c.if-is_empty.false) in
    c.in_ok-stay-in-None.ensures.new c.args.macros.now c.args.bound f.0 f.1 f.2 (MatchOption-at_none _ _ c.in-None.is (c.invoked_ahead.ensures f.0 f.1 f.2)) c.requires

pub returns-in_ok-take-in-Some-clause-new : goal.returns-in_ok-take-in-Some-clause-new
returns-in_ok-take-in-Some-clause-new c =
    c.in_ok-take-in-Some.ensures.new c.args.macros.now (λ t rest w. MatchOption-at_some _ _ c.in-Some.invoked c.in-Some.is (c.invoked_ahead.ensures t rest w))
