-- The operators of C (C11 6.5) and what an expression may begin with.
use Rattle.std.specs.Prelude.{ℕ, Option, Some, None}
use Rattle.cx_syntax_tree.specs.declared.terminals.Punctuator.{Punctuator}
use Rattle.cx_syntax_tree.specs.declared.terminals.Punctuator.TheVariants as mark
use Rattle.cx_syntax_tree.specs.declared.terminals.Terminal.{Terminal}
use Rattle.cx_syntax_tree.specs.declared.terminals.Terminal.TheVariants as terminal_is
use Rattle.cx_syntax_tree.specs.declared.expressions.UnaryOperator.{UnaryOperator}
use Rattle.cx_syntax_tree.specs.declared.expressions.UnaryOperator.TheVariants as unary
use Rattle.cx_syntax_tree.specs.declared.expressions.Step.{Step}
use Rattle.cx_syntax_tree.specs.declared.expressions.Step.TheVariants as step
use Rattle.cx_syntax_tree.specs.declared.expressions.BinaryOperator.{BinaryOperator}
use Rattle.cx_syntax_tree.specs.declared.expressions.BinaryOperator.TheVariants as binary
use Rattle.cx_syntax_tree.specs.declared.expressions.AssignOperator.{AssignOperator}
use Rattle.cx_syntax_tree.specs.declared.expressions.AssignOperator.TheVariants as assign

-- C11 6.5.3
abbrev pub unary_mark : Punctuator → Option UnaryOperator
unary_mark mark.Ampersand = Some unary.AddressOf
unary_mark mark.Star = Some unary.Indirection
unary_mark mark.Plus = Some unary.Plus
unary_mark mark.Minus = Some unary.Minus
unary_mark mark.Tilde = Some unary.Complement
unary_mark mark.Exclamation = Some unary.Not
unary_mark _ = None

-- C11 6.5.2.4 and 6.5.3.1
abbrev pub step_mark : Punctuator → Option Step
step_mark mark.PlusPlus = Some step.Increment
step_mark mark.MinusMinus = Some step.Decrement
step_mark _ = None

-- C11 6.5.5 to 6.5.14
abbrev pub binary_mark : Punctuator → Option BinaryOperator
binary_mark mark.Star = Some binary.Multiply
binary_mark mark.Slash = Some binary.Divide
binary_mark mark.Percent = Some binary.Remainder
binary_mark mark.Plus = Some binary.Add
binary_mark mark.Minus = Some binary.Subtract
binary_mark mark.LessLess = Some binary.ShiftLeft
binary_mark mark.GreaterGreater = Some binary.ShiftRight
binary_mark mark.Less = Some binary.Less
binary_mark mark.Greater = Some binary.Greater
binary_mark mark.LessEqual = Some binary.LessEqual
binary_mark mark.GreaterEqual = Some binary.GreaterEqual
binary_mark mark.EqualEqual = Some binary.Equal
binary_mark mark.ExclamationEqual = Some binary.NotEqual
binary_mark mark.Ampersand = Some binary.BitAnd
binary_mark mark.Caret = Some binary.BitXor
binary_mark mark.Bar = Some binary.BitOr
binary_mark mark.AmpersandAmpersand = Some binary.And
binary_mark mark.BarBar = Some binary.Or
binary_mark _ = None

-- how loosely an operator binds: 1 for 6.5.5 up to 10 for 6.5.14
abbrev pub level_of : BinaryOperator → ℕ
level_of binary.Multiply = 1
level_of binary.Divide = 1
level_of binary.Remainder = 1
level_of binary.Add = 2
level_of binary.Subtract = 2
level_of binary.ShiftLeft = 3
level_of binary.ShiftRight = 3
level_of binary.Less = 4
level_of binary.Greater = 4
level_of binary.LessEqual = 4
level_of binary.GreaterEqual = 4
level_of binary.Equal = 5
level_of binary.NotEqual = 5
level_of binary.BitAnd = 6
level_of binary.BitXor = 7
level_of binary.BitOr = 8
level_of binary.And = 9
level_of binary.Or = 10

-- C11 6.5.16
abbrev pub assign_mark : Punctuator → Option AssignOperator
assign_mark mark.Equal = Some assign.Simple
assign_mark mark.StarEqual = Some (assign.Compound binary.Multiply)
assign_mark mark.SlashEqual = Some (assign.Compound binary.Divide)
assign_mark mark.PercentEqual = Some (assign.Compound binary.Remainder)
assign_mark mark.PlusEqual = Some (assign.Compound binary.Add)
assign_mark mark.MinusEqual = Some (assign.Compound binary.Subtract)
assign_mark mark.LessLessEqual = Some (assign.Compound binary.ShiftLeft)
assign_mark mark.GreaterGreaterEqual = Some (assign.Compound binary.ShiftRight)
assign_mark mark.AmpersandEqual = Some (assign.Compound binary.BitAnd)
assign_mark mark.CaretEqual = Some (assign.Compound binary.BitXor)
assign_mark mark.BarEqual = Some (assign.Compound binary.BitOr)
assign_mark _ = None

abbrev pub at_mark : {A : Type 0} → (Punctuator → Option A) → Terminal → Option A
at_mark f (terminal_is.Punctuator m) = f m
at_mark f _ = None

unfoldable pub unary_operator : Terminal → Option UnaryOperator
unary_operator t = at_mark unary_mark t

unfoldable pub step_of : Terminal → Option Step
step_of t = at_mark step_mark t

unfoldable pub binary_operator : Terminal → Option BinaryOperator
binary_operator t = at_mark binary_mark t

unfoldable pub assign_operator : Terminal → Option AssignOperator
assign_operator t = at_mark assign_mark t
