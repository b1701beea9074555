use Rattle.cx_expressions.proofs.knot.+knot.Given as goal

abbrev pub decreases-cast : goal.decreases-cast
decreases-cast l = l.depth

abbrev pub decreases-unary : goal.decreases-unary
decreases-unary l = l.depth

abbrev pub decreases-cond : goal.decreases-cond
decreases-cond l = l.depth

abbrev pub decreases-assign : goal.decreases-assign
decreases-assign l = l.depth
