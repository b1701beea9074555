-- The roles of a token beside the questions that the rules ask of it.
use Rattle.std.proofs.Common.{◌≡◌, refl, ap, subst, ℕ, ◌<◌, true, false, List, ◌∷◌, Some, arith}
use Rattle.cx_syntax_tree.specs.declared.terminals.Keyword.TheVariants as word
use Rattle.cx_syntax_tree.specs.declared.terminals.Punctuator.{Punctuator}
use Rattle.cx_syntax_tree.specs.declared.terminals.Punctuator.TheVariants as mark
use Rattle.cx_syntax_tree.specs.declared.terminals.Terminal.{Terminal}
use Rattle.cx_syntax_tree.specs.declared.terminals.Terminal.TheVariants as terminal_is
use Rattle.cx_syntax_tree.specs.declared.terminals.Lexeme.{Lexeme}
use Rattle.cx_syntax_tree.specs.declared.expressions.UnaryOperator.{UnaryOperator}
use Rattle.cx_syntax_tree.specs.declared.expressions.Step.{Step}
use Rattle.cx_syntax_tree.specs.declared.expressions.BinaryOperator.{BinaryOperator}
use Rattle.cx_syntax_tree.specs.declared.expressions.AssignOperator.{AssignOperator}
use Rattle.cx_reading.specs.Parsing.{front, is_mark}
use Rattle.cx_reading.specs.TypeFronts.{begins_type, continues_type, EndsType}
use Rattle.cx_terminals.specs.Terminals.{Is}
use Rattle.cx_expressions.specs.Operators.{unary_mark, step_mark, binary_mark, assign_mark, unary_operator, step_of, binary_operator, assign_operator}
use Rattle.cx_expressions.specs.declared.roles.Begin.{Begin}
use Rattle.cx_expressions.specs.declared.roles.Begin.TheVariants as begin_is
use Rattle.cx_expressions.specs.declared.roles.Behind.{Behind}
use Rattle.cx_expressions.specs.declared.roles.Behind.TheVariants as behind_is
use Rattle.cx_expressions.specs.Shapes.Roles.{begin_of, is_operand, begins, behind_of, follows, binds_of, Stops, Operand, begin_step, behind_binary}

-- ---- in front of an operand

step_mark_begins : (m : Punctuator) (s : Step) → step_mark m ≡ Some s
    → begin_step (step_mark m) m ≡ begin_is.Step s
step_mark_begins mark.PlusPlus s e = cc
step_mark_begins _ s e = cc

pub step_begins : (t : Terminal) (s : Step) → step_of t ≡ Some s → begin_of t ≡ begin_is.Step s
unfolding begin_of step_of
step_begins (terminal_is.Punctuator m) s e = step_mark_begins m s e
step_begins _ s e = absurd cc

unary_mark_begins : (m : Punctuator) (op : UnaryOperator) → unary_mark m ≡ Some op
    → begin_step (step_mark m) m ≡ begin_is.Operator op
unary_mark_begins mark.PlusPlus op e = cc
unary_mark_begins _ op e = cc

pub operator_begins : (t : Terminal) (op : UnaryOperator) → unary_operator t ≡ Some op
    → begin_of t ≡ begin_is.Operator op
unfolding begin_of unary_operator
operator_begins (terminal_is.Punctuator m) op e = unary_mark_begins m op e
operator_begins _ op e = absurd cc

begins_step_mark : (m : Punctuator) (s : Step) → begin_step (step_mark m) m ≡ begin_is.Step s
    → step_mark m ≡ Some s
begins_step_mark mark.PlusPlus s e = cc
begins_step_mark _ s e = cc

pub begins_step : (t : Terminal) (s : Step) → begin_of t ≡ begin_is.Step s → step_of t ≡ Some s
unfolding begin_of step_of
begins_step (terminal_is.Punctuator m) s e = begins_step_mark m s e
begins_step (terminal_is.Keyword word.Sizeof) s e = cc
begins_step (terminal_is.Keyword _) s e = cc
begins_step _ s e = cc

begins_unary_mark : (m : Punctuator) (op : UnaryOperator)
    → begin_step (step_mark m) m ≡ begin_is.Operator op → unary_mark m ≡ Some op
begins_unary_mark mark.PlusPlus op e = cc
begins_unary_mark _ op e = cc

pub begins_operator : (t : Terminal) (op : UnaryOperator) → begin_of t ≡ begin_is.Operator op
    → unary_operator t ≡ Some op
unfolding begin_of unary_operator
begins_operator (terminal_is.Punctuator m) op e = begins_unary_mark m op e
begins_operator (terminal_is.Keyword word.Sizeof) op e = cc
begins_operator (terminal_is.Keyword _) op e = cc
begins_operator _ op e = cc

open_mark_is : (m : Punctuator) → begin_step (step_mark m) m ≡ begin_is.Open
    → m ≡ mark.OpenRound
open_mark_is mark.OpenRound e = refl
open_mark_is _ e = absurd cc

pub open_is : (t : Terminal) → begin_of t ≡ begin_is.Open → t ≡ terminal_is.Punctuator mark.OpenRound
unfolding begin_of
open_is (terminal_is.Punctuator m) e = ap terminal_is.Punctuator (open_mark_is m e)
open_is (terminal_is.Keyword word.Sizeof) e = absurd cc
open_is (terminal_is.Keyword _) e = absurd cc
open_is _ e = absurd cc

no_mark_sizeof : (m : Punctuator) → begin_step (step_mark m) m ≡ begin_is.Sizeof → ⊥
no_mark_sizeof mark.OpenRound e = absurd cc
no_mark_sizeof _ e = absurd cc

pub sizeof_is : (t : Terminal) → begin_of t ≡ begin_is.Sizeof → t ≡ terminal_is.Keyword word.Sizeof
unfolding begin_of
sizeof_is (terminal_is.Punctuator m) e = absurd (no_mark_sizeof m e)
sizeof_is (terminal_is.Keyword word.Sizeof) e = refl
sizeof_is (terminal_is.Keyword _) e = absurd cc
sizeof_is _ e = absurd cc

no_mark_name : (m : Punctuator) (n : ℕ) → begin_step (step_mark m) m ≡ begin_is.Name n → ⊥
no_mark_name mark.OpenRound n e = absurd cc
no_mark_name _ n e = absurd cc

pub name_is : (t : Terminal) (n : ℕ) → begin_of t ≡ begin_is.Name n → t ≡ terminal_is.Name n
unfolding begin_of
name_is (terminal_is.Name m) n e = cc
name_is (terminal_is.Punctuator m) n e = absurd (no_mark_name m n e)
name_is (terminal_is.Keyword word.Sizeof) n e = absurd cc
name_is (terminal_is.Keyword _) n e = absurd cc
name_is _ n e = absurd cc

no_mark_number : (m : Punctuator) → begin_step (step_mark m) m ≡ begin_is.Number → ⊥
no_mark_number mark.OpenRound e = absurd cc
no_mark_number _ e = absurd cc

pub number_is : (t : Terminal) → begin_of t ≡ begin_is.Number → t ≡ terminal_is.Number
unfolding begin_of
number_is terminal_is.Number e = refl
number_is (terminal_is.Punctuator m) e = absurd (no_mark_number m e)
number_is (terminal_is.Keyword word.Sizeof) e = absurd cc
number_is (terminal_is.Keyword _) e = absurd cc
number_is _ e = absurd cc

no_mark_char : (m : Punctuator) → begin_step (step_mark m) m ≡ begin_is.Char → ⊥
no_mark_char mark.OpenRound e = absurd cc
no_mark_char _ e = absurd cc

pub char_is : (t : Terminal) → begin_of t ≡ begin_is.Char → t ≡ terminal_is.Char
unfolding begin_of
char_is terminal_is.Char e = refl
char_is (terminal_is.Punctuator m) e = absurd (no_mark_char m e)
char_is (terminal_is.Keyword word.Sizeof) e = absurd cc
char_is (terminal_is.Keyword _) e = absurd cc
char_is _ e = absurd cc

no_mark_string : (m : Punctuator) → begin_step (step_mark m) m ≡ begin_is.String → ⊥
no_mark_string mark.OpenRound e = absurd cc
no_mark_string _ e = absurd cc

pub string_is : (t : Terminal) → begin_of t ≡ begin_is.String → t ≡ terminal_is.String
unfolding begin_of
string_is terminal_is.String e = refl
string_is (terminal_is.Punctuator m) e = absurd (no_mark_string m e)
string_is (terminal_is.Keyword word.Sizeof) e = absurd cc
string_is (terminal_is.Keyword _) e = absurd cc
string_is _ e = absurd cc

-- an operand begins with no type and no closing bracket
pub operand_no_type : (t : Terminal) → is_operand (begin_of t) ≡ true → begins_type t ≡ false
unfolding begin_of begins_type
operand_no_type (terminal_is.Keyword word.Sizeof) e = refl
operand_no_type (terminal_is.Keyword _) e = absurd cc
operand_no_type (terminal_is.TypeName n) e = absurd cc
operand_no_type _ e = refl

operand_no_close_mark : (m : Punctuator) → is_operand (begin_step (step_mark m) m) ≡ true
    → is_mark mark.CloseRound (terminal_is.Punctuator m) ≡ false
unfolding is_mark
operand_no_close_mark mark.CloseRound e = absurd cc
operand_no_close_mark _ e = refl

pub operand_no_close : (t : Terminal) → is_operand (begin_of t) ≡ true
    → is_mark mark.CloseRound t ≡ false
unfolding begin_of is_mark
operand_no_close (terminal_is.Punctuator m) e = operand_no_close_mark m e
operand_no_close (terminal_is.Keyword word.Sizeof) e = refl
operand_no_close (terminal_is.Keyword _) e = refl
operand_no_close _ e = refl

-- ---- behind an operand

step_mark_behind : (m : Punctuator) (s : Step) → step_mark m ≡ Some s
    → behind_binary (binary_mark m) m ≡ behind_is.Step s
step_mark_behind mark.PlusPlus s e = cc
step_mark_behind _ s e = cc

pub step_behind : (t : Terminal) (s : Step) → step_of t ≡ Some s → behind_of t ≡ behind_is.Step s
unfolding behind_of step_of
step_behind (terminal_is.Punctuator m) s e = step_mark_behind m s e
step_behind _ s e = absurd cc

behind_step_mark : (m : Punctuator) (s : Step) → behind_binary (binary_mark m) m ≡ behind_is.Step s
    → step_mark m ≡ Some s
behind_step_mark mark.PlusPlus s e = cc
behind_step_mark _ s e = cc

pub behind_step_of : (t : Terminal) (s : Step) → behind_of t ≡ behind_is.Step s → step_of t ≡ Some s
unfolding behind_of step_of
behind_step_of (terminal_is.Punctuator m) s e = behind_step_mark m s e
behind_step_of _ s e = cc

pub binary_behind : (t : Terminal) (op : BinaryOperator) → binary_operator t ≡ Some op
    → behind_of t ≡ behind_is.Binary op
unfolding behind_of binary_operator
binary_behind (terminal_is.Punctuator m) op e = rw e refl
binary_behind _ op e = absurd cc

behind_binary_mark : (m : Punctuator) (op : BinaryOperator)
    → behind_binary (binary_mark m) m ≡ behind_is.Binary op → binary_mark m ≡ Some op
behind_binary_mark mark.PlusPlus op e = cc
behind_binary_mark _ op e = cc

pub behind_binary_of : (t : Terminal) (op : BinaryOperator) → behind_of t ≡ behind_is.Binary op
    → binary_operator t ≡ Some op
unfolding behind_of binary_operator
behind_binary_of (terminal_is.Punctuator m) op e = behind_binary_mark m op e
behind_binary_of _ op e = cc

assign_mark_behind : (m : Punctuator) (op : AssignOperator) → assign_mark m ≡ Some op
    → behind_binary (binary_mark m) m ≡ behind_is.Assign op
assign_mark_behind mark.PlusPlus op e = cc
assign_mark_behind _ op e = cc

pub assign_behind : (t : Terminal) (op : AssignOperator) → assign_operator t ≡ Some op
    → behind_of t ≡ behind_is.Assign op
unfolding behind_of assign_operator
assign_behind (terminal_is.Punctuator m) op e = assign_mark_behind m op e
assign_behind _ op e = absurd cc

behind_assign_mark : (m : Punctuator) (op : AssignOperator)
    → behind_binary (binary_mark m) m ≡ behind_is.Assign op → assign_mark m ≡ Some op
behind_assign_mark mark.PlusPlus op e = cc
behind_assign_mark _ op e = cc

pub behind_assign_of : (t : Terminal) (op : AssignOperator) → behind_of t ≡ behind_is.Assign op
    → assign_operator t ≡ Some op
unfolding behind_of assign_operator
behind_assign_of (terminal_is.Punctuator m) op e = behind_assign_mark m op e
behind_assign_of _ op e = cc

index_mark_is : (m : Punctuator) → behind_binary (binary_mark m) m ≡ behind_is.Index
    → m ≡ mark.OpenSquare
index_mark_is mark.OpenSquare e = refl
index_mark_is _ e = absurd cc

pub index_is : (t : Terminal) → behind_of t ≡ behind_is.Index
    → t ≡ terminal_is.Punctuator mark.OpenSquare
unfolding behind_of
index_is (terminal_is.Punctuator m) e = ap terminal_is.Punctuator (index_mark_is m e)
index_is _ e = absurd cc

dot_mark_is : (m : Punctuator) → behind_binary (binary_mark m) m ≡ behind_is.Dot → m ≡ mark.Dot
dot_mark_is mark.Dot e = refl
dot_mark_is _ e = absurd cc

pub dot_is : (t : Terminal) → behind_of t ≡ behind_is.Dot → t ≡ terminal_is.Punctuator mark.Dot
unfolding behind_of
dot_is (terminal_is.Punctuator m) e = ap terminal_is.Punctuator (dot_mark_is m e)
dot_is _ e = absurd cc

arrow_mark_is : (m : Punctuator) → behind_binary (binary_mark m) m ≡ behind_is.Arrow
    → m ≡ mark.Arrow
arrow_mark_is mark.Arrow e = refl
arrow_mark_is _ e = absurd cc

pub arrow_is : (t : Terminal) → behind_of t ≡ behind_is.Arrow
    → t ≡ terminal_is.Punctuator mark.Arrow
unfolding behind_of
arrow_is (terminal_is.Punctuator m) e = ap terminal_is.Punctuator (arrow_mark_is m e)
arrow_is _ e = absurd cc

question_mark_is : (m : Punctuator) → behind_binary (binary_mark m) m ≡ behind_is.Question
    → m ≡ mark.Question
question_mark_is mark.Question e = refl
question_mark_is _ e = absurd cc

pub question_is : (t : Terminal) → behind_of t ≡ behind_is.Question
    → t ≡ terminal_is.Punctuator mark.Question
unfolding behind_of
question_is (terminal_is.Punctuator m) e = ap terminal_is.Punctuator (question_mark_is m e)
question_is _ e = absurd cc

no_comma_mark : (m : Punctuator) → 13 < binds_of (behind_binary (binary_mark m) m)
    → is_mark mark.Comma (terminal_is.Punctuator m) ≡ false
unfolding is_mark
no_comma_mark mark.Comma h = absurd (omega (arith, h))
no_comma_mark _ h = refl

pub no_comma : (t : Terminal) → 13 < binds_of (behind_of t) → is_mark mark.Comma t ≡ false
unfolding behind_of is_mark
no_comma (terminal_is.Punctuator m) h = no_comma_mark m h
no_comma _ h = refl

no_call_mark : (m : Punctuator) → 0 < binds_of (behind_binary (binary_mark m) m)
    → is_mark mark.OpenRound (terminal_is.Punctuator m) ≡ false
unfolding is_mark
no_call_mark mark.OpenRound h = absurd (omega (arith, h))
no_call_mark _ h = refl

pub no_call : (t : Terminal) → 0 < binds_of (behind_of t) → is_mark mark.OpenRound t ≡ false
unfolding behind_of is_mark
no_call (terminal_is.Punctuator m) h = no_call_mark m h
no_call _ h = refl

no_suffix_call_mark : (m : Punctuator) (s : Step) → step_mark m ≡ Some s
    → is_mark mark.OpenRound (terminal_is.Punctuator m) ≡ false
unfolding is_mark
no_suffix_call_mark mark.OpenRound s e = absurd cc
no_suffix_call_mark _ s e = refl

pub step_no_call : (t : Terminal) (s : Step) → step_of t ≡ Some s
    → is_mark mark.OpenRound t ≡ false
unfolding step_of is_mark
step_no_call (terminal_is.Punctuator m) s e = no_suffix_call_mark m s e
step_no_call _ s e = refl

-- ---- of the tokens that come next

pub front_of : (p : Lexeme) (ts : List Lexeme) → front (p ∷ ts) ≡ p.terminal
unfolding front
front_of p ts = refl

pub begins_at : (ts : List Lexeme) (p : Lexeme) (us : List Lexeme) (b : Begin) → ts ≡ p ∷ us
    → begins ts ≡ b → begin_of p.terminal ≡ b
unfolding begins front
begins_at ts p us b e h = subst (λ vs. begin_of (front vs) ≡ b) e h

pub follows_at : (ts : List Lexeme) (p : Lexeme) (us : List Lexeme) (b : Behind) → ts ≡ p ∷ us
    → follows ts ≡ b → behind_of p.terminal ≡ b
unfolding follows front
follows_at ts p us b e h = subst (λ vs. behind_of (front vs) ≡ b) e h

pub close_stops : (p : Lexeme) (ts : List Lexeme) → Is mark.CloseRound p → Stops 13 (p ∷ ts)
unfolding follows behind_of front
close_stops p ts is = rw is (omega arith)

pub square_stops : (p : Lexeme) (ts : List Lexeme) → Is mark.CloseSquare p → Stops 13 (p ∷ ts)
unfolding follows behind_of front
square_stops p ts is = rw is (omega arith)

pub colon_stops : (p : Lexeme) (ts : List Lexeme) → Is mark.Colon p → Stops 13 (p ∷ ts)
unfolding follows behind_of front
colon_stops p ts is = rw is (omega arith)

pub comma_stops : (ts : List Lexeme) → front ts ≡ terminal_is.Punctuator mark.Comma → Stops 12 ts
unfolding follows behind_of
comma_stops ts e = rw e (omega arith)

pub close_ends_type : (p : Lexeme) (ts : List Lexeme) → Is mark.CloseRound p → EndsType (p ∷ ts)
unfolding continues_type front
close_ends_type p ts is = rw is refl

pub operand_begins_no_type : (ts : List Lexeme) → Operand ts → begins_type (front ts) ≡ false
unfolding begins
operand_begins_no_type ts e = operand_no_type (front ts) e

pub operand_begins_no_close : (ts : List Lexeme) → Operand ts
    → is_mark mark.CloseRound (front ts) ≡ false
unfolding begins
operand_begins_no_close ts e = operand_no_close (front ts) e
