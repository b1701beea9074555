use Rattle.std.proofs.Common.{◌+◌, ◌*◌, ◌-◌, refl, arith, sym, ◌∙◌}
use Rattle.cx_options.specs.Arguments.{number_of}
use Rattle.cx_options.proofs.NumberLaws.{digit_at, limit, limit_four, limit_more, number_parts, value_at}
use Rattle.cx_options.proofs.number.number_of.Goals as goal

pub loop-byte-init : goal.loop-byte-init
unfolding limit number_of
loop-byte-init c = record {
  below = omega arith;
  digits = (number_parts _ c.requires).0;
  value = refl;
}

pub overflow_mul-number : goal.overflow_mul-number
overflow_mul-number c =
    let four = (number_parts c.args.text.now c.requires).1 in
    omega (arith, limit_four c.loop-byte.byte-index, c.loop-byte.invariant.below)

pub overflow_add-number : goal.overflow_add-number
overflow_add-number c =
    let four = (number_parts c.args.text.now c.requires).1 in
    let digit = digit_at c.args.text.now c.loop-byte.byte-index 0 c.loop-byte-test.true c.loop-byte.invariant.digits in
    omega (arith, limit_four c.loop-byte.byte-index, c.loop-byte.invariant.below, digit.1, c.from.ensures)

pub loop-byte-preserved : goal.loop-byte-preserved
loop-byte-preserved c =
    let digit = digit_at c.args.text.now c.loop-byte.byte-index 0 c.loop-byte-test.true c.loop-byte.invariant.digits in
    let value = value_at (λ n b. 10 * n + (b - 48)) c.args.text.now c.loop-byte.byte-index c.loop-byte.number 0 c.loop-byte-test.true in
    record {
      below = limit_more c.loop-byte.byte-index c.loop-byte.number c.from.result c.loop-byte.invariant.below (omega (arith, digit.1, c.from.ensures));
      digits = digit.2;
      value = rw c.from.ensures (sym value ∙ c.loop-byte.invariant.value);
    }
