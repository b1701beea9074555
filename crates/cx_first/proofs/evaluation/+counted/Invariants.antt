use Rattle.cx_first.specs.Tree.{tree_of}
use Rattle.cx_first.specs.Evaluation.{size}
use Rattle.cx_first.proofs.evaluation.+counted.Given as goal

abbrev pub decreases-counted : goal.decreases-counted
decreases-counted l = size (tree_of l.expr.now)
