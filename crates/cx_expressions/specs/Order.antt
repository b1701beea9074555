-- The tokens that are read are those of the tree, in order: none is lost, and none is read twice.
use Rattle.cx_syntax_tree.specs.Written.{expr_written, assign_written, cond_written}
use Rattle.cx_reading.specs.Agreement.{InOrder}
use Rattle.cx_expressions.specs.Expressions.{Assign, Cond, Expr}

abbrev pub ExprInOrder : Type 0
ExprInOrder = InOrder expr_written Expr

abbrev pub AssignInOrder : Type 0
AssignInOrder = InOrder assign_written Assign

abbrev pub CondInOrder : Type 0
CondInOrder = InOrder cond_written Cond
