-- The evaluation of an expression in a memory (C11 6.5): each node makes its value after its
-- operands, the left one first, and brackets make none.
use Rattle.std.specs.Prelude.{ℕ, ◌+◌, ℤ, pos, List, [], ◌∷◌, ◌++◌, length, slice_get, Option, Some, None, option_and_then, if◌then◌else◌}
use Rattle.std.specs.Ordering.{int_eq}
use Rattle.cx_tree.specs.declared.types.IntType.TheVariants.{Int}
use Rattle.cx_tree.specs.declared.types.Platform.TheVariants.{Unix64}
use Rattle.cx_tree.specs.declared.operators.Op.{Op}
use Rattle.cx_tree.specs.declared.operators.Op.TheVariants as operation
use Rattle.cx_tree.specs.Arithmetic.{arith}
use Rattle.cx_first.specs.declared.tree.Operator.{Operator}
use Rattle.cx_first.specs.declared.tree.Operator.TheVariants.{Add, Subtract, Multiply, Divide}
use Rattle.cx_first.specs.declared.evaluation.Undefined.{Undefined}
use Rattle.cx_first.specs.declared.evaluation.Undefined.TheVariants.{Uninitialized, ZeroDivisor, Overflow}
use Rattle.cx_first.specs.declared.evaluation.End.{End}
use Rattle.cx_first.specs.declared.evaluation.End.TheVariants as at_end
use Rattle.cx_first.specs.declared.evaluation.Evaluated.{Evaluated}
use Rattle.cx_first.specs.declared.evaluation.Evaluated.TheVariants.{Value, Stopped}
use Rattle.cx_first.specs.Tree.{Tree, number, variable, negation, binary, brackets}

-- the values of the variables, by their index, where they have one
abbrev pub Memory : Type 0
Memory = List (Option ℤ)

-- the value of a variable; one that the memory does not hold has none
abbrev pub held : Memory → ℕ → Option ℤ
held memory index = option_and_then (λ value. value) (slice_get memory index)

-- the arithmetic of int
abbrev pub on_int : Op → ℤ → ℤ → Option ℤ
on_int op a b = arith op Int Unix64 a b

abbrev pub operation_of : Operator → Op
operation_of Add = operation.Add
operation_of Subtract = operation.Subtract
operation_of Multiply = operation.Multiply
operation_of Divide = operation.Divide

-- why an operation with this right operand is undefined, where it is (C11 6.5p5, 6.5.5p5)
abbrev pub cause_of : Operator → ℤ → Undefined
cause_of Divide b = if int_eq b (pos 0) then ZeroDivisor else Overflow
cause_of Add b = Overflow
cause_of Subtract b = Overflow
cause_of Multiply b = Overflow

-- what an evaluation makes: the values of the nodes in the order in which they are made, and its
-- end
pub record Made : Type 0 where
  pub values : List ℤ
  pub end : End

-- the value of the last node, or why it has none
abbrev pub last_node : Undefined → Option ℤ → Made
last_node cause None = record { values = []; end = at_end.Undefined cause }
last_node cause (Some v) = record { values = v ∷ []; end = at_end.Value v }

-- what is made behind these values, where they end in a value
abbrev pub goes_on : List ℤ → End → (ℤ → Made) → Made
goes_on values (at_end.Value v) next =
    record { values = values ++ (next v).values; end = (next v).end }
goes_on values (at_end.Undefined cause) next =
    record { values = values; end = at_end.Undefined cause }

abbrev pub then_make : Made → (ℤ → Made) → Made
then_make first next = goes_on first.values first.end next

unfoldable pub made : Tree → Memory → Made
made (number value at) memory = last_node Overflow (Some (pos value))
made (variable index at) memory = last_node Uninitialized (held memory index)
made (negation at operand) memory =
    then_make (made operand memory) (λ v. last_node Overflow (on_int operation.Negate v (pos 0)))
made (binary operator at left right) memory =
    then_make (made left memory) (λ v.
    then_make (made right memory)
    (λ w. last_node (cause_of operator w) (on_int (operation_of operator) v w)))
made (brackets inner) memory = made inner memory

-- an evaluation stops at the node whose number is that of the values made, counted from 0
abbrev pub stops : List ℤ → End → Evaluated
stops values (at_end.Value v) = Value v
stops values (at_end.Undefined cause) = Stopped (length values) cause

abbrev pub evaluated : Tree → Memory → Evaluated
evaluated tree memory = stops (made tree memory).values (made tree memory).end

-- how many nodes and brackets a tree has
unfoldable pub size : Tree → ℕ
size (number value at) = 1
size (variable index at) = 1
size (negation at operand) = size operand + 1
size (binary operator at left right) = size left + size right + 1
size (brackets inner) = size inner + 1
