use Rattle.std.proofs.Common.{◌∙◌, sym, ap, subst, ◌<◌, ◌≤◌}
use Rattle.cx_condition.specs.Shapes.Machine.{released}
use Rattle.cx_condition.proofs.FrameLaws.{within_none, within_stays, within_goes}
use Rattle.cx_condition.proofs.frame.Frames.pop_within.Goals as goal

pub returns-in_err-frame-clause-frames : goal.returns-in_err-frame-clause-frames
returns-in_err-frame-clause-frames c = λ v.
    within_none c.args.reach c.args.self.now v (sym c.newest.ensures ∙ c.in_err-frame.was)
    ∙ ap (λ r. released r c.args.reach c.args.self.now v) (sym c.from_residual.ensures)

pub returns-then-binds-reach-clause-frames : goal.returns-then-binds-reach-clause-frames
returns-then-binds-reach-clause-frames c = λ v.
    within_stays c.args.reach c.args.self.now c.in_ok-frame.frame v (sym c.newest.ensures ∙ c.in_ok-frame.was)
    (subst (λ n. c.args.reach < n) c.binds.ensures c.if-binds-reach.true)

pub returns-clause-frames : goal.returns-clause-frames
returns-clause-frames c = λ v.
    within_goes c.args.reach c.args.self.now c.pop.new.self c.in_ok-frame.frame c.pop.result v
    (sym c.newest.ensures ∙ c.in_ok-frame.was)
    (subst (λ n. n ≤ c.args.reach) c.binds.ensures c.if-binds-reach.false)
    c.pop.ensures
