-- The trees of first texts, as definitions speak of them, and what the tree types stand for.
use Rattle.std.specs.Prelude.{ℕ, List, map, Option, option_map}
use Rattle.cx_base.specs.declared.place.Place.{Place}
use Rattle.cx_first.specs.declared.tree.Operator.{Operator}
use Rattle.cx_first.specs.declared.tree.Expr.{Expr, Number, Variable, Negation', Binary', Brackets', end_of-Expr, more_of-Expr}
use Rattle.cx_first.specs.declared.tree.Statement.{Statement}
use Rattle.cx_first.specs.declared.tree.Statement.TheVariants.{Declare, Assign, Return}
use Rattle.cx_first.specs.declared.tree.FirstText.{FirstText}

-- an expression (C11 6.5): a variable is its index in the names, a bracketed expression keeps its
-- brackets
pub data Tree : Type 0 where
  number : (value : ℕ) (at : Place) → Tree
  variable : (index : ℕ) (at : Place) → Tree
  negation : (at : Place) (operand : Tree) → Tree
  binary : (operator : Operator) (at : Place) (left right : Tree) → Tree
  brackets : (inner : Tree) → Tree

-- a statement, or one declarator with its initialiser
pub data Form : Type 0 where
  declares : (index : ℕ) (at : Place) (initialiser : Option Tree) → Form
  assigns : (index : ℕ) (at : Place) (value : Tree) → Form
  returns : (at : Place) (value : Tree) → Form

-- a text: the declared names and the statements, in order
pub record Source : Type 0 where
  pub names : List (List ℕ)
  pub statements : List Form

unfoldable pub tree_of : Expr → Tree
tree_of (Number value at) = number value at
tree_of (Variable index at) = variable index at
tree_of (Negation' at s (more_of-Expr a end_of-Expr)) = negation at (tree_of a)
tree_of (Binary' op at s (more_of-Expr a end_of-Expr) t (more_of-Expr b end_of-Expr)) =
    binary op at (tree_of a) (tree_of b)
tree_of (Brackets' s (more_of-Expr a end_of-Expr)) = brackets (tree_of a)

abbrev pub form_of : Statement → Form
form_of (Declare index at value) = declares index at (option_map tree_of value)
form_of (Assign index at value) = assigns index at (tree_of value)
form_of (Return at value) = returns at (tree_of value)

abbrev pub source_of : FirstText → Source
source_of text = record { names = text.names; statements = map form_of text.statements }
