use Rattle.cx_expressions.proofs.OrderLaws.{exprs_in_order, assigns_in_order, conds_in_order}
use Rattle.cx_expressions.proofs.laws.tokens_in_order.Goals as goal

pub returns : goal.returns
returns c = record {
  expression = exprs_in_order;
  assignment = assigns_in_order;
  conditional = conds_in_order;
}
