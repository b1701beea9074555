-- The definitions, computed on small texts.
use Rattle.std.proofs.Common.{◌≡◌, ℕ, ℤ, pos, neg_ℤ, List, [], ◌∷◌, Some, None, true, false, codes, refl}
use Rattle.cx_base.specs.declared.place.Place.{Place}
use Rattle.cx_tokens.specs.declared.token.Kind.{Kind}
use Rattle.cx_tokens.specs.declared.token.Kind.TheVariants as kind
use Rattle.cx_tokens.specs.declared.token.Token.{Token}
use Rattle.cx_first.specs.declared.tree.Operator.TheVariants.{Add, Subtract, Multiply, Divide}
use Rattle.cx_first.specs.declared.terminals.Terminal.TheVariants as terminal_is
use Rattle.cx_first.specs.declared.statements.Awaits.TheVariants as awaits
use Rattle.cx_first.specs.declared.evaluation.Undefined.TheVariants.{Uninitialized, ZeroDivisor, Overflow}
use Rattle.cx_first.specs.declared.evaluation.Evaluated.TheVariants.{Value, Stopped}
use Rattle.cx_first.specs.Tree.{Tree, number, variable, negation, binary, brackets, declares, assigns, returns, Source}
use Rattle.cx_lex.specs.Characters as characters
use Rattle.cx_tree.specs.Arithmetic as arithmetic
use Rattle.cx_first.specs.Names.{index_of}
use Rattle.cx_first.specs.Numbers.{greatest, number_of}
use Rattle.cx_first.specs.Terminals.{is_int_constant, is_keyword, terminal, word, number as number_terminal}
use Rattle.cx_first.specs.Grammar.{operator_of, level_of, Reads, a_number, a_chain, Chains, ends, goes_on, ReadsText, nothing, a_function, a_statement, a_return, Body, closed, more, Expression, IsFirstText}
use Rattle.cx_first.specs.Evaluation.{evaluated, made, size}
use Rattle.cx_first.specs.Runs.{next, start}

at : Place
at = record { file = 0; line = 1; column = 1 }

token : Kind → List ℕ → Token
token kind text = record {
  kind = kind;
  text = text;
  place = at;
  hide = [];
  space = false;
  parts = [];
  digraph = false;
}

-- C11 6.4.4.1: digits, a 0 in front only alone, and a value of `int`
zero : is_int_constant (codes "0") ≡ true
unfolding is_int_constant characters.is_digit greatest
zero = refl

no_digits : is_int_constant [] ≡ false
unfolding is_int_constant characters.is_digit greatest
no_digits = refl

octal : is_int_constant (codes "010") ≡ false
unfolding is_int_constant characters.is_digit greatest
octal = refl

suffixed : is_int_constant (codes "1u") ≡ false
unfolding is_int_constant characters.is_digit greatest
suffixed = refl

greatest_int : is_int_constant (codes "2147483647") ≡ true
unfolding is_int_constant characters.is_digit greatest
greatest_int = refl

one_past : is_int_constant (codes "2147483648") ≡ false
unfolding is_int_constant characters.is_digit greatest
one_past = refl

value : number_of (codes "2147483647") ≡ 2147483647
value = refl

-- what tokens are to the grammar
a_name : terminal (token kind.Name (codes "integer")) ≡ terminal_is.Name
unfolding terminal word is_keyword token
a_name = refl

a_keyword : terminal (token kind.Name (codes "_Thread_local")) ≡ terminal_is.Foreign
unfolding terminal word is_keyword token
a_keyword = refl

a_constant : terminal (token kind.Number (codes "42")) ≡ terminal_is.Number 42
unfolding terminal number_terminal is_int_constant token characters.is_digit greatest
a_constant = refl

a_string : terminal (token kind.String (codes "int")) ≡ terminal_is.Foreign
unfolding terminal token
a_string = refl

two_marks : terminal (token kind.Punct (codes "+=")) ≡ terminal_is.Foreign
unfolding terminal token
two_marks = refl

-- the first declaration of a name counts, and a name that is none has no index
second_name : index_of (codes "a" ∷ codes "b" ∷ []) (codes "b") ≡ Some 1
unfolding index_of
second_name = refl

no_name : index_of (codes "a" ∷ []) (codes "ab") ≡ None
unfolding index_of
no_name = refl

-- C11 6.5p5, 6.5.5p5: where evaluations stop, and why
abbrev int : ℕ → Tree
int n = number n at

difference : evaluated (binary Subtract at (binary Subtract at (int 1) (int 2)) (int 3)) [] ≡ Value (neg_ℤ (pos 4))
unfolding made arithmetic.arith
difference = refl

-- a quotient is cut off towards 0 (C11 6.5.5p6)
quotient : evaluated (binary Divide at (negation at (int 7)) (int 2)) [] ≡ Value (neg_ℤ (pos 3))
unfolding made arithmetic.arith
quotient = refl

divided_by_0 : evaluated (binary Divide at (int 1) (int 0)) [] ≡ Stopped 2 ZeroDivisor
unfolding made arithmetic.arith
divided_by_0 = refl

past_the_greatest : evaluated (binary Add at (int 2147483647) (int 1)) [] ≡ Stopped 2 Overflow
unfolding made arithmetic.arith
past_the_greatest = refl

-- the left operand is evaluated first
left_first : evaluated (binary Multiply at (variable 0 at) (binary Divide at (int 1) (int 0))) (None ∷ [])
    ≡ Stopped 0 Uninitialized
unfolding made
left_first = refl

-- brackets are no node of their own
bracketed : evaluated (binary Divide at (brackets (int 1)) (brackets (int 0))) [] ≡ Stopped 2 ZeroDivisor
unfolding made arithmetic.arith
bracketed = refl

bracketed_size : size (brackets (int 0)) ≡ 2
unfolding size
bracketed_size = refl

-- `int a = 1; return a; a = 0;`
text : Source
text = record {
  names = codes "a" ∷ [];
  statements = declares 0 at (Some (int 1)) ∷ returns at (variable 0 at) ∷ assigns 0 at (int 0) ∷ [];
}

initialised : next text (start text) ≡ Some (1, Some (pos 1) ∷ [])
unfolding made text
initialised = refl

-- a return leads to the end
returned : next text (1, Some (pos 1) ∷ []) ≡ Some (3, Some (pos 1) ∷ [])
unfolding made text
returned = refl

no_step_at_the_end : next text (3, Some (pos 1) ∷ []) ≡ None
unfolding text
no_step_at_the_end = refl

-- `1 - 2 - 3`, from left to right
minus : Token
minus = token kind.Punct (codes "-")

digit : List ℕ → Token
digit text = token kind.Number text

chain : Reads [] 2 (digit (codes "1") ∷ minus ∷ digit (codes "2") ∷ minus ∷ digit (codes "3") ∷ [])
    (binary Subtract at (binary Subtract at (int 1) (int 2)) (int 3)) []
unfolding terminal number_terminal is_int_constant characters.is_digit greatest operator_of level_of token digit minus
chain =
    a_chain refl (a_chain refl (a_number refl) ends)
    (goes_on refl refl refl (a_chain refl (a_number refl) ends)
    (goes_on refl refl refl (a_chain refl (a_number refl) ends) ends))

-- no tokens at all
empty : IsFirstText [] (record { names = []; statements = [] })
empty = nothing
