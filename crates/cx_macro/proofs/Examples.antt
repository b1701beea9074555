-- Examples of invocations, their arguments, hide sets, and of what macro replacement makes of lists (C11 6.10.3.5).
use Rattle.std.proofs.Common.{◌≡◌, ℕ, ◌+◌, ◌≤◌, List, [], ◌∷◌, ◌++◌, Bool, true, false, Option, Some, None, codes, refl, arith, lit≤}
use Rattle.cx_base.specs.declared.place.Place.{Place}
use Rattle.cx_tokens.specs.Brackets.{is_punctuator}
use Rattle.cx_tokens.specs.declared.token.Kind.{Kind}
use Rattle.cx_tokens.specs.declared.token.Kind.TheVariants.{Name, Number, Punct}
use Rattle.cx_tokens.specs.declared.token.Token.{Token}
use Rattle.cx_table.specs.NameTable.{value_of}
use Rattle.cx_macro.specs.Arguments.{AreArguments, Arguments, Bracketed, IsBracketed, argument_brackets, argument_ends, argument_token, each_given, last_argument, more_arguments, nested_ends, nested_token, no_argument, no_arguments, variable_given, variable_left_out}
use Rattle.cx_macro.specs.Expansion.{Expands, definition_at, ends, expanded, no_bracket_after, not_a_macro, object_like, object_name, replacement_of, token_goes, token_stays}
use Rattle.cx_macro.specs.Hiding.{common, united, with_name}
use Rattle.cx_macro.specs.Macros.{Definition, Table, parameter_at}
use Rattle.cx_macro.specs.Replacement.{Glues, goes_on, is_expanded, replacement_tokens, role_of, substitutes_of}
use Rattle.cx_macro.specs.Replacement as by
use Rattle.cx_macro.specs.Shapes.Counting.{arguments_of, cut_at_comma, named_arguments}
use Rattle.cx_macro.proofs.CountingLaws.{arguments_none}

abbrev somewhere : Place
somewhere = record { file = 0; line = 1; column = 1 }

abbrev hiding : List (List ℕ) → Kind → List ℕ → Token
hiding hide kind text = record { kind = kind; text = text; place = somewhere; hide = hide; space = false; parts = []; digraph = false }

abbrev name : List ℕ → Token
name text = hiding [] Name text

abbrev sign : List ℕ → Token
sign text = hiding [] Punct text

abbrev comma : Token
comma = sign (codes ",")

abbrev opening : Token
opening = sign (codes "(")

abbrev closing : Token
closing = sign (codes ")")

-- `a, (b, c), d` are three arguments, the second in brackets
abbrev bracketed_pair : List Token
bracketed_pair = opening ∷ name (codes "b") ∷ comma ∷ name (codes "c") ∷ closing ∷ []

three_arguments : AreArguments 3 false (name (codes "a") ∷ comma ∷ (bracketed_pair ++ comma ∷ name (codes "d") ∷ []))
    (record { given = (name (codes "a") ∷ []) ∷ bracketed_pair ∷ (name (codes "d") ∷ []) ∷ []; left_out = false })
unfolding is_punctuator
three_arguments =
    each_given
    (more_arguments {a = name (codes "a") ∷ []} comma (argument_token refl refl refl argument_ends) refl
    (more_arguments {a = bracketed_pair} comma
    (argument_brackets {inner = name (codes "b") ∷ comma ∷ name (codes "c") ∷ []} {ts = []} closing refl
    (nested_token refl refl (nested_token refl refl (nested_token refl refl nested_ends))) refl argument_ends) refl
    (last_argument (argument_token refl refl refl argument_ends)))) refl

-- and neither two nor four
not_two : (x : Arguments) → ¬ AreArguments 2 false (name (codes "a") ∷ comma ∷ (bracketed_pair ++ comma ∷ name (codes "d") ∷ [])) x
unfolding arguments_of named_arguments cut_at_comma is_punctuator
not_two = arguments_none refl

-- `()`: one empty argument for one parameter, none for none
one_empty : AreArguments 1 false [] (record { given = [] ∷ []; left_out = false })
one_empty = each_given (last_argument argument_ends) refl

none_given : AreArguments 0 false [] no_arguments
none_given = each_given no_argument refl

-- `#define p(a, ...)`: `p(1)` leaves the variable argument out, `p(1,)` gives it empty, and `p(1, 2, 3)` gives it a comma
abbrev number : List ℕ → Token
number text = hiding [] Number text

variable_out : AreArguments 1 true (number (codes "1") ∷ []) (record { given = (number (codes "1") ∷ []) ∷ [] ∷ []; left_out = true })
unfolding is_punctuator
variable_out = variable_left_out (last_argument (argument_token refl refl refl argument_ends)) refl

variable_empty : AreArguments 1 true (number (codes "1") ∷ comma ∷ []) (record { given = (number (codes "1") ∷ []) ∷ [] ∷ []; left_out = false })
unfolding is_punctuator
variable_empty = variable_given comma refl (last_argument (argument_token refl refl refl argument_ends)) refl (omega arith) refl nested_ends

abbrev two_three : List Token
two_three = number (codes "2") ∷ comma ∷ number (codes "3") ∷ []

variable_two : AreArguments 1 true (number (codes "1") ∷ comma ∷ two_three) (record { given = (number (codes "1") ∷ []) ∷ two_three ∷ []; left_out = false })
unfolding is_punctuator
variable_two =
    variable_given comma refl (last_argument (argument_token refl refl refl argument_ends)) refl (omega arith) refl
    (nested_token refl refl (nested_token refl refl (nested_token refl refl nested_ends)))

-- hide sets
both_names : common (codes "f" ∷ codes "g" ∷ []) (codes "g" ∷ codes "h" ∷ []) ≡ codes "g" ∷ []
unfolding common
both_names = refl

either_name : united (codes "f" ∷ codes "g" ∷ []) (codes "g" ∷ codes "h" ∷ []) ≡ codes "f" ∷ codes "g" ∷ codes "h" ∷ []
unfolding united
either_name = refl

-- `#define z z[0]`: `z` gives `z[0]`, where `z` hides its name and stays
abbrev z_body : List Token
z_body = name (codes "z") ∷ sign (codes "[") ∷ number (codes "0") ∷ sign (codes "]") ∷ []

abbrev z : Definition
z = record { parameters = None; variadic = false; body = z_body }

abbrev z_table : Table
z_table = (codes "z", z) ∷ []

abbrev z_hidden : Kind → List ℕ → Token
z_hidden kind text = hiding (codes "z" ∷ []) kind text

z_expands : Expands z_table 6 1 (name (codes "z") ∷ [])
    (expanded (z_hidden Name (codes "z") ∷ z_hidden Punct (codes "[") ∷ z_hidden Number (codes "0") ∷ z_hidden Punct (codes "]") ∷ []) 6)
unfolding definition_at value_of is_punctuator substitutes_of role_of parameter_at replacement_tokens united
z_expands =
    token_goes _ [] 1 (object_like z (Some z_body) (object_name refl refl) (goes_on (goes_on (goes_on (goes_on by.ends))))) (omega arith)
    (token_stays (not_a_macro refl) (token_stays (not_a_macro refl) (token_stays (not_a_macro refl) (token_stays (not_a_macro refl) ends))))

-- a function-like macro's name with no bracket after it stays
f_alone : Expands ((codes "f", record { parameters = Some (codes "a" ∷ []); variadic = false; body = name (codes "a") ∷ [] }) ∷ []) 9 1 (name (codes "f") ∷ [])
    (expanded (name (codes "f") ∷ []) 1)
unfolding definition_at value_of
f_alone = token_stays (no_bracket_after refl refl refl) ends
