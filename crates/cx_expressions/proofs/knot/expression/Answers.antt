use Rattle.cx_expressions.proofs.PublicLaws.{expr_found, expr_only}
use Rattle.cx_expressions.proofs.knot.expression.Goals as goal

pub returns-clause-found : goal.returns-clause-found
returns-clause-found c = expr_found c.args.depth _ _ _ c.rows.ensures

pub returns-clause-only : goal.returns-clause-only
returns-clause-only c = expr_only c.args.depth _ _ _ c.rows.ensures
