use Rattle.std.proofs.Common.{true, false}
use Rattle.std.specs.Option.{option_copied}
use Rattle.cx_asking.proofs.IncludeLaws.{none_taken, taken_here, taken_later, taken_told}
use Rattle.cx_asking.proofs.includes.taken.Goals as goal

pub returns-then-is_there : goal.returns-then-is_there
returns-then-is_there c =
    taken_here c.args.answers.now c.args.paths.now c.loop-path.path-index c.path-item.result c.loop-path-test.true c.path-item.is c.loop-path.invariant
    (taken_told c.args.answers.now c.path-item.result (option_copied c.get.result) c.is_there.result true c.get.ensures c.is_there.ensures c.if-is_there.true)

pub loop-path-preserved : goal.loop-path-preserved
loop-path-preserved c =
    taken_later c.args.answers.now c.args.paths.now c.loop-path.path-index c.path-item.result c.loop-path-test.true c.path-item.is c.loop-path.invariant
    (taken_told c.args.answers.now c.path-item.result (option_copied c.get.result) c.is_there.result false c.get.ensures c.is_there.ensures c.if-is_there.false)

pub returns : goal.returns
returns c = none_taken c.args.answers.now c.args.paths.now c.loop-path.path-index c.loop-path-test.false c.loop-path.invariant
