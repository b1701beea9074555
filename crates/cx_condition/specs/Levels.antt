-- How tightly operators bind (C11 6.5.5 to 6.5.14).
use Rattle.std.specs.Prelude.{ℕ}
use Rattle.cx_condition.specs.declared.operator.Operator.{Operator}
use Rattle.cx_condition.specs.declared.operator.Operator.TheVariants as operator

-- the level of an operator on two operands, from the tightest, 1, to the loosest, 10
unfoldable pub level_of : Operator → ℕ
level_of operator.Multiply = 1
level_of operator.Divide = 1
level_of operator.Remainder = 1
level_of operator.Add = 2
level_of operator.Subtract = 2
level_of operator.ShiftLeft = 3
level_of operator.ShiftRight = 3
level_of operator.Less = 4
level_of operator.Greater = 4
level_of operator.AtMost = 4
level_of operator.AtLeast = 4
level_of operator.Equal = 5
level_of operator.Different = 5
level_of operator.And = 6
level_of operator.ExclusiveOr = 7
level_of operator.Or = 8
level_of operator.LogicalAnd = 9
level_of operator.LogicalOr = 10
