use Rattle.std.proofs.Common.{◌≡◌, ◌∙◌, refl, sym}
use Rattle.std.proofs.lemmas.Option.{MatchOption-at_some}
use Rattle.cx_macro.specs.Expansion.{no_invocation}
use Rattle.cx_macro.specs.Shapes.Invocations.{invocation_of}
use Rattle.cx_macro.proofs.ProgressLaws.{none_waits, one_first, one_waits, stays_outermost, stays_within}
use Rattle.cx_macro.proofs.steps.stay.Goals as goal

pub returns-then-is_empty-clause-new : goal.returns-then-is_empty-clause-new
returns-then-is_empty-clause-new c = λ table bound t rest w u le.
    let p = c.in_ok-pass.ensures t rest w in
    stays_outermost table bound t rest c.args.state _ w u le (none_waits c.args.state.calls (sym c.is_empty.ensures ∙ c.if-is_empty.true)) refl
    p.0 refl p.1 p.2 refl

pub returns-clause-new : goal.returns-clause-new
returns-clause-new c = λ table bound t rest w u le.
    let p = MatchOption-at_some _ _ c.in-Some.token c.in-Some.is c.in_ok-token.ensures in
    stays_within table bound c.in-Some.token c.pop.new.self.ahead c.args.state _ p.0
    (one_first (λ x y. invocation_of table x y ≡ no_invocation) c.args.state.buffer.ahead t c.in-Some.token rest c.pop.new.self.ahead w p.0 u) le
    (one_waits c.args.state.calls (sym c.is_empty.ensures ∙ c.if-is_empty.false)) refl p.1 c.in_ok-push.ensures.ok refl p.2 refl
