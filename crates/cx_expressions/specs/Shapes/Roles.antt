-- What a token is in front of an operand and behind one. Two roles decide everything.
use Rattle.std.specs.Prelude.{◌≡◌, ◌<◌, ℕ, Bool, true, false, List, Option, Some, None}
use Rattle.cx_syntax_tree.specs.declared.terminals.Keyword.TheVariants as word
use Rattle.cx_syntax_tree.specs.declared.terminals.Punctuator.{Punctuator}
use Rattle.cx_syntax_tree.specs.declared.terminals.Punctuator.TheVariants as mark
use Rattle.cx_syntax_tree.specs.declared.terminals.Terminal.{Terminal}
use Rattle.cx_syntax_tree.specs.declared.terminals.Terminal.TheVariants as terminal_is
use Rattle.cx_syntax_tree.specs.declared.terminals.Lexeme.{Lexeme}
use Rattle.cx_syntax_tree.specs.declared.expressions.UnaryOperator.{UnaryOperator}
use Rattle.cx_syntax_tree.specs.declared.expressions.Step.{Step}
use Rattle.cx_syntax_tree.specs.declared.expressions.BinaryOperator.{BinaryOperator}
use Rattle.cx_syntax_tree.specs.declared.expressions.AssignOperator.{AssignOperator}
use Rattle.cx_reading.specs.Parsing.{front, second}
use Rattle.cx_reading.specs.TypeFronts.{begins_type}
use Rattle.cx_expressions.specs.Operators.{unary_mark, step_mark, binary_mark, assign_mark, level_of}
use Rattle.cx_expressions.specs.declared.roles.Begin.{Begin}
use Rattle.cx_expressions.specs.declared.roles.Begin.TheVariants as begin_is
use Rattle.cx_expressions.specs.declared.roles.Behind.{Behind}
use Rattle.cx_expressions.specs.declared.roles.Behind.TheVariants as behind_is

-- ---- in front of an operand

abbrev pub open_mark : Punctuator → Begin
open_mark mark.OpenRound = begin_is.Open
open_mark _ = begin_is.Nothing

abbrev pub begin_operator : Option UnaryOperator → Punctuator → Begin
begin_operator (Some op) m = begin_is.Operator op
begin_operator None m = open_mark m

abbrev pub begin_step : Option Step → Punctuator → Begin
begin_step (Some s) m = begin_is.Step s
begin_step None m = begin_operator (unary_mark m) m

unfoldable pub begin_of : Terminal → Begin
begin_of (terminal_is.Name n) = begin_is.Name n
begin_of terminal_is.Number = begin_is.Number
begin_of terminal_is.Char = begin_is.Char
begin_of terminal_is.String = begin_is.String
begin_of (terminal_is.Keyword word.Sizeof) = begin_is.Sizeof
begin_of (terminal_is.Punctuator m) = begin_step (step_mark m) m
begin_of _ = begin_is.Nothing

abbrev pub is_operand : Begin → Bool
is_operand begin_is.Nothing = false
is_operand _ = true

unfoldable pub begins : List Lexeme → Begin
begins ts = begin_of (front ts)

abbrev pub cast_front : Begin → Terminal → Bool
cast_front begin_is.Open t = begins_type t
cast_front _ t = false

-- "(" and what begins a type: by two tokens a cast is told from brackets (C11 6.5.4)
unfoldable pub begins_cast : List Lexeme → Bool
begins_cast ts = cast_front (begins ts) (second ts)

-- ---- behind an operand

abbrev pub other_mark : Punctuator → Behind
other_mark mark.OpenRound = behind_is.Call
other_mark mark.OpenSquare = behind_is.Index
other_mark mark.Dot = behind_is.Dot
other_mark mark.Arrow = behind_is.Arrow
other_mark mark.Question = behind_is.Question
other_mark mark.Comma = behind_is.Comma
other_mark _ = behind_is.Nothing

abbrev pub behind_step : Option Step → Punctuator → Behind
behind_step (Some s) m = behind_is.Step s
behind_step None m = other_mark m

abbrev pub behind_assign : Option AssignOperator → Punctuator → Behind
behind_assign (Some op) m = behind_is.Assign op
behind_assign None m = behind_step (step_mark m) m

abbrev pub behind_binary : Option BinaryOperator → Punctuator → Behind
behind_binary (Some op) m = behind_is.Binary op
behind_binary None m = behind_assign (assign_mark m) m

unfoldable pub behind_of : Terminal → Behind
behind_of (terminal_is.Punctuator m) = behind_binary (binary_mark m) m
behind_of _ = behind_is.Nothing

unfoldable pub follows : List Lexeme → Behind
follows ts = behind_of (front ts)

-- how loosely the token binds what stands before it: 0 goes on with a postfix expression, 1 to 10
-- are the levels of operators, 14 goes on with nothing
abbrev pub binds_of : Behind → ℕ
binds_of behind_is.Call = 0
binds_of behind_is.Index = 0
binds_of behind_is.Dot = 0
binds_of behind_is.Arrow = 0
binds_of (behind_is.Step s) = 0
binds_of (behind_is.Binary op) = level_of op
binds_of behind_is.Question = 11
binds_of (behind_is.Assign op) = 12
binds_of behind_is.Comma = 13
binds_of behind_is.Nothing = 14

-- no tree of this level goes on with these tokens
abbrev pub Stops : ℕ → List Lexeme → Type 0
Stops level ts = level < binds_of (follows ts)

-- the tokens begin an operand
abbrev pub Operand : List Lexeme → Type 0
Operand ts = is_operand (begins ts) ≡ true
