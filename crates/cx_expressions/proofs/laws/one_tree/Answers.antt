use Rattle.cx_expressions.proofs.PublicLaws.{one_expr, one_assign, one_cond}
use Rattle.cx_expressions.proofs.laws.one_tree.Goals as goal

pub returns : goal.returns
returns c = record { expression = one_expr; assignment = one_assign; conditional = one_cond }
