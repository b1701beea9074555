use Rattle.std.proofs.Common.{◌∙◌}
use Rattle.cx_condition.proofs.BitLaws.{left_shift, left_shifts, zero_shift}
use Rattle.cx_condition.proofs.arithmetic.moved_left.Goals as goal

pub returns-then-count-ge64 : goal.returns-then-count-ge64
returns-then-count-ge64 c = λ u. zero_shift u c.args.x c.args.count c.ranges.x.fits c.if-count-ge64.true ∙ left_shift u c.args.x c.args.count

pub returns : goal.returns
returns c = λ u. left_shifts u c.args.x c.args.count c.ranges.x.fits ∙ left_shift u c.args.x c.args.count
