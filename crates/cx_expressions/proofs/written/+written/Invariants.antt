use Rattle.cx_expressions.proofs.written.+written.Given as goal

abbrev pub decreases-write_expr : goal.decreases-write_expr
decreases-write_expr l = l.fuel

abbrev pub decreases-write_assign : goal.decreases-write_assign
decreases-write_assign l = l.fuel

abbrev pub decreases-write_cond : goal.decreases-write_cond
decreases-write_cond l = l.fuel

abbrev pub decreases-write_lor : goal.decreases-write_lor
decreases-write_lor l = l.fuel

abbrev pub decreases-write_cast : goal.decreases-write_cast
decreases-write_cast l = l.fuel

abbrev pub decreases-write_unary : goal.decreases-write_unary
decreases-write_unary l = l.fuel

abbrev pub decreases-write_postfix : goal.decreases-write_postfix
decreases-write_postfix l = l.fuel

abbrev pub decreases-write_suffix : goal.decreases-write_suffix
decreases-write_suffix l = l.fuel

abbrev pub decreases-write_head : goal.decreases-write_head
decreases-write_head l = l.fuel
