use Rattle.std.proofs.Common.{◌∙◌, []}
use Rattle.cx_asking.specs.Wishes.{given_wishes}
use Rattle.cx_asking.proofs.UnitLaws.{units_begin, units_end, units_next}
use Rattle.cx_asking.proofs.units.units_of.Goals as goal

pub loop-path-init : goal.loop-path-init
loop-path-init c =
    c.new-units.ensures ∙ units_begin c.args.limits.now.folders c.args.answers.now (given_wishes c.args.limits.now c.args.answers.now) [] c.args.paths.now

pub loop-path-preserved : goal.loop-path-preserved
loop-path-preserved c =
    units_next c.args.limits.now.folders c.args.answers.now (given_wishes c.args.limits.now c.args.answers.now) [] c.loop-path.units c.in_ok-units.units c.args.paths.now
    c.loop-path.path-index c.path-item.result c.loop-path.invariant c.loop-path-test.true c.path-item.is c.in_ok-units.ensures

pub returns : goal.returns
returns c =
    units_end c.args.limits.now.folders c.args.answers.now (given_wishes c.args.limits.now c.args.answers.now) [] c.loop-path.units c.args.paths.now
    c.loop-path.path-index c.loop-path.invariant c.loop-path-test.false
