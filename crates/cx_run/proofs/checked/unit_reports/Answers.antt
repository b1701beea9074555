use Rattle.std.proofs.Common.{MatchOption, [], sym, subst}
use Rattle.cx_run.specs.Shapes.Told.{AreTold, IsToldOf, IsUntold}
use Rattle.cx_run.proofs.CheckedLaws.{told_next, told_none}
use Rattle.cx_run.proofs.checked.unit_reports.Goals as goal

pub loop-path-init : goal.loop-path-init
loop-path-init c =
    subst (AreTold c.args.teller.now []) (sym c.new-reports.ensures) (told_none c.args.teller.now c.args.units.now)

pub loop-path-preserved : goal.loop-path-preserved
loop-path-preserved c =
    told_next c.args.teller.now c.args.units.now c.loop-path.reports c.push.new.self c.loop-path.path-index
    c.path-item.result c.in-Some.report c.loop-path-test.true (sym c.path-item.is) c.loop-path.invariant
    (subst (λ r. MatchOption r (IsUntold c.args.teller.now c.path-item.result) (IsToldOf c.args.teller.now c.path-item.result))
    c.in-Some.is c.in_ok-report.ensures)
    c.in_ok-push-in-Some.ensures.ok
