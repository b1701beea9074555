-- What each variant of an expression is as a tree.
use Rattle.std.proofs.Common.{◌≡◌, ℕ, refl}
use Rattle.cx_base.specs.declared.place.Place.{Place}
use Rattle.cx_first.specs.declared.tree.Operator.{Operator}
use Rattle.cx_first.specs.declared.tree.Expr.{Expr}
use Rattle.cx_first.specs.declared.tree.Expr.TheVariants.{Number, Variable, Negation, Binary, Brackets}
use Rattle.cx_first.specs.Tree.{tree_of, number, variable, negation, binary, brackets}

pub tree_number : (n : ℕ) (at : Place) → tree_of (Number n at) ≡ number n at
unfolding tree_of
tree_number n at = refl

pub tree_variable : (x : ℕ) (at : Place) → tree_of (Variable x at) ≡ variable x at
unfolding tree_of
tree_variable x at = refl

pub tree_negation : (at : Place) (a : Expr) → tree_of (Negation at a) ≡ negation at (tree_of a)
unfolding tree_of Rattle.cx_first.specs.declared.tree.Expr.TheBlock.hidden-the_row-Expr-0 denote.Hole.Carrier.hidden
tree_negation at a = refl

pub tree_binary : (op : Operator) (at : Place) (a b : Expr) → tree_of (Binary op at a b) ≡ binary op at (tree_of a) (tree_of b)
unfolding tree_of Rattle.cx_first.specs.declared.tree.Expr.TheBlock.hidden-the_row-Expr-0 denote.Hole.Carrier.hidden
tree_binary op at a b = refl

pub tree_brackets : (a : Expr) → tree_of (Brackets a) ≡ brackets (tree_of a)
unfolding tree_of Rattle.cx_first.specs.declared.tree.Expr.TheBlock.hidden-the_row-Expr-0 denote.Hole.Carrier.hidden
tree_brackets a = refl

pub ruleset trees = (tree_number, tree_variable, tree_negation, tree_binary, tree_brackets)
