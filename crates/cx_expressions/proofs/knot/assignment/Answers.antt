use Rattle.cx_expressions.proofs.PublicLaws.{assign_found, assign_only}
use Rattle.cx_expressions.proofs.knot.assignment.Goals as goal

pub returns-clause-found : goal.returns-clause-found
returns-clause-found c = assign_found c.args.depth _ _ _ c.assign.ensures

pub returns-clause-only : goal.returns-clause-only
returns-clause-only c = assign_only c.args.depth _ _ _ c.assign.ensures
