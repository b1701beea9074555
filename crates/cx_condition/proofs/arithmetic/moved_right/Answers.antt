use Rattle.std.proofs.Common.{◌∙◌, ap, sym, ◌-◌}
use Rattle.cx_condition.proofs.BitLaws.{right_low, right_high}
use Rattle.cx_condition.proofs.arithmetic.moved_right.Goals as goal

pub returns-then-is_negative : goal.returns-then-is_negative
returns-then-is_negative c = ap (λ n. 18446744073709551615 - n) c.moved_down.ensures ∙ right_high c.args.is_unsigned c.args.x c.args.count c.ranges.x.fits (sym c.is_negative.ensures.sign ∙ c.if-is_negative.true)

pub returns : goal.returns
returns c = c.moved_down-2.ensures ∙ right_low c.args.is_unsigned c.args.x c.args.count c.ranges.x.fits (sym c.is_negative.ensures.sign ∙ c.if-is_negative.false)
