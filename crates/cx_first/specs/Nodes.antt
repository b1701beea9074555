-- The nodes of an expression in the order in which they make their values, the place of each, and
-- its text.
use Rattle.std.specs.Prelude.{◌≡◌, ℕ, ◌+◌, List, [], ◌∷◌, ◌++◌, length, slice_get, Option, Some, option_map, option_and_then, unwrap_or, codes, decimal}
use Rattle.cx_base.specs.declared.place.Place.{Place}
use Rattle.cx_first.specs.declared.tree.Operator.{Operator}
use Rattle.cx_first.specs.declared.tree.Operator.TheVariants.{Add, Subtract, Multiply, Divide}
use Rattle.cx_first.specs.declared.evaluation.Undefined.{Undefined}
use Rattle.cx_first.specs.declared.evaluation.Undefined.TheVariants.{Uninitialized, ZeroDivisor, Overflow}
use Rattle.cx_first.specs.declared.nodes.Node.{Node}
use Rattle.cx_first.specs.declared.nodes.Found.{Found}
use Rattle.cx_first.specs.declared.nodes.Found.TheVariants as found
use Rattle.cx_first.specs.Tree.{Tree, number, variable, negation, binary, brackets, tree_of, Source}
use Rattle.cx_first.specs.Names.{Names}
use Rattle.cx_first.specs.Runs.{expression}

-- each node stands behind its operands, the left one first, and brackets are no node of their own
-- (C11 6.5.1p5)
unfoldable pub nodes : Tree → List Tree
nodes (number value at) = number value at ∷ []
nodes (variable index at) = variable index at ∷ []
nodes (negation at operand) = nodes operand ++ negation at operand ∷ []
nodes (binary operator at left right) =
    nodes left ++ (nodes right ++ binary operator at left right ∷ [])
nodes (brackets inner) = nodes inner

-- the place of the number, of the name or of the operator
unfoldable pub place_of : Tree → Place
place_of (number value at) = at
place_of (variable index at) = at
place_of (negation at operand) = at
place_of (binary operator at left right) = at
place_of (brackets inner) = place_of inner

abbrev pub symbol_of : Operator → List ℕ
symbol_of Add = codes "+"
symbol_of Subtract = codes "-"
symbol_of Multiply = codes "*"
symbol_of Divide = codes "/"

-- the name of a variable, which is empty where the names have none
abbrev pub name_of : Names → ℕ → List ℕ
name_of names index = unwrap_or (slice_get names index) []

-- the tokens of an expression with nothing between them
unfoldable pub text_of : Names → Tree → List ℕ
text_of names (number value at) = decimal value
text_of names (variable index at) = name_of names index
text_of names (negation at operand) = codes "-" ++ text_of names operand
text_of names (binary operator at left right) =
    text_of names left ++ (symbol_of operator ++ text_of names right)
text_of names (brackets inner) = codes "(" ++ (text_of names inner ++ codes ")")

-- the node of this number, counted from 0, in the expression of a statement
abbrev pub node_tree : Source → ℕ → ℕ → Option Tree
node_tree source statement node =
    option_and_then (λ tree. slice_get (nodes tree) node) (expression source statement)

-- a node with its place and its text
abbrev pub written : Names → Tree → Node
written names tree = record { place = place_of tree; text = text_of names tree }

abbrev pub node_of : Source → ℕ → ℕ → Option Node
node_of source statement node = option_map (written source.names) (node_tree source statement node)

-- the node of this number among the nodes, or how much the number is past them
abbrev pub FoundIs : List Tree → ℕ → Found → Type 0
FoundIs among node (found.Node expr) = slice_get among node ≡ Some (tree_of expr.now)
FoundIs among node (found.Past more) = node ≡ length among + more

-- the nodes that can be undefined for a cause: reads of variables, divisions, and operations (C11
-- 6.3.2.1p2, 6.5.5p5, 6.5p5)
abbrev pub CanStop : Undefined → Tree → Type 0
CanStop Uninitialized (variable index at) = Unit {0}
CanStop Uninitialized (number value at) = ⊥
CanStop Uninitialized (negation at operand) = ⊥
CanStop Uninitialized (binary operator at left right) = ⊥
CanStop Uninitialized (brackets inner) = ⊥
CanStop ZeroDivisor (binary operator at left right) = operator ≡ Divide
CanStop ZeroDivisor (number value at) = ⊥
CanStop ZeroDivisor (variable index at) = ⊥
CanStop ZeroDivisor (negation at operand) = ⊥
CanStop ZeroDivisor (brackets inner) = ⊥
CanStop Overflow (negation at operand) = Unit {0}
CanStop Overflow (binary operator at left right) = Unit {0}
CanStop Overflow (number value at) = ⊥
CanStop Overflow (variable index at) = ⊥
CanStop Overflow (brackets inner) = ⊥
