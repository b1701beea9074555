use Rattle.cx_expressions.proofs.PublicLaws.{cond_found, cond_only}
use Rattle.cx_expressions.proofs.knot.conditional.Goals as goal

pub returns-clause-found : goal.returns-clause-found
returns-clause-found c = cond_found c.args.depth _ _ _ c.cond.ensures

pub returns-clause-only : goal.returns-clause-only
returns-clause-only c = cond_only c.args.depth _ _ _ c.cond.ensures
