use Rattle.std.proofs.Common.{◌≡◌, ◌+◌, ◌-◌, suc, length, sym, ◌∙◌, ap, arith}
use Rattle.cx_first.specs.Descent.{ends_expression}
use Rattle.cx_first.proofs.ExpressionLaws.{counts_stop, counts_out, counts_on, counts_none}
use Rattle.cx_first.proofs.statements.length_of.Goals as goal

pub returns-then-ends_expression : goal.returns-then-ends_expression
returns-then-ends_expression c =
    counts_stop _ _ _ _ _ _ c.loop-token.invariant.going c.in-Some.ensures (ap ends_expression (sym c.terminal_of.ensures) ∙ sym c.if-ends_expression.ensures)

pub returns-then-count-limit : goal.returns-then-count-limit
returns-then-count-limit c =
    counts_out _ _ _ _ _ _ c.loop-token.invariant.going c.in-Some.ensures (ap ends_expression (sym c.terminal_of.ensures) ∙ sym c.if-ends_expression.ensures) (omega arith)

pub loop-token-preserved : goal.loop-token-preserved
loop-token-preserved c =
    let z : c.args.limit - c.loop-token.count ≡ suc (c.args.limit - (c.loop-token.count + 1)) = omega arith in
    record {
      within = omega arith;
      counted = omega (arith, ap length c.in-Some.ensures);
      going = counts_on _ _ _ _ _ _ _ c.loop-token.invariant.going c.in-Some.ensures (ap ends_expression (sym c.terminal_of.ensures) ∙ sym c.if-ends_expression.ensures) z;
    }

pub returns : goal.returns
returns c = counts_none _ _ _ _ c.loop-token.invariant.going c.in_default.ensures
