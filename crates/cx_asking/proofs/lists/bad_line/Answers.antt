use Rattle.std.proofs.Common.{ap, arith, length}
use Rattle.std.proofs.lemmas.Bool.{false_from_ne_true}
use Rattle.std.proofs.lemmas.Str.{IsUtf8-from_is_utf8, is_utf8-from_IsUtf8}
use Rattle.cx_asking.specs.Lists.{lines}
use Rattle.cx_asking.proofs.ListLaws.{line_bad, line_good, no_line_bad}
use Rattle.cx_asking.proofs.lists.bad_line.Goals as goal

pub returns-in_default : goal.returns-in_default
returns-in_default c =
    line_bad c.loop-line.number (lines c.args.bytes.now) c.loop-line.line-iterator c.next.new.self c.in-Some.line.now c.loop-line.invariant.rest
    c.in-Some.ensures.steps (false_from_ne_true _ (λ e. c.in_default.ensures.cases.0 (IsUtf8-from_is_utf8 c.in-Some.line.now e)))

pub loop-line-preserved : goal.loop-line-preserved
loop-line-preserved c = record {
  rest =
      line_good c.loop-line.number (lines c.args.bytes.now) c.loop-line.line-iterator c.next.new.self c.in-Some.line.now c.loop-line.invariant.rest
      c.in-Some.ensures.steps (is_utf8-from_IsUtf8 c.in-Some.line.now c.in-Ok.ensures.cases.1);
  few = omega (arith, c.loop-line.invariant.few, ap length c.in-Some.ensures.steps);
}

pub overflow_add-number : goal.overflow_add-number
overflow_add-number c = omega (arith, c.loop-line.invariant.few, ap length c.in-Some.ensures.steps)

pub returns : goal.returns
returns c = no_line_bad c.loop-line.number (lines c.args.bytes.now) c.loop-line.line-iterator c.loop-line.invariant.rest c.in-None.ensures.steps.0
