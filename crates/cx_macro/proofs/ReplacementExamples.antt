-- Examples of what a macro is replaced by: those that C11 6.10.3.2, 6.10.3.3 and 6.10.3.5 print, GNU's comma, digraphs, hide sets.
use Rattle.std.proofs.Common.{◌≡◌, ℕ, List, [], ◌∷◌, Bool, true, false, Some, None, codes, refl}
use Rattle.cx_base.specs.declared.place.Place.{Place}
use Rattle.cx_tokens.specs.Brackets.{is_punctuator}
use Rattle.cx_tokens.specs.Digraphs.{digraph_of, spelling_of}
use Rattle.cx_tokens.specs.declared.token.Kind.{Kind}
use Rattle.cx_tokens.specs.declared.token.Kind.TheVariants.{Char, Name, Number, Other, Punct, String}
use Rattle.cx_tokens.specs.declared.token.Token.{Token}
use Rattle.cx_macro.specs.Arguments.{Arguments, no_arguments}
use Rattle.cx_macro.specs.Hiding.{united}
use Rattle.cx_macro.specs.Macros.{Definition, parameter_at}
use Rattle.cx_macro.specs.Replacement.{Glues, characters_of_all, is_expanded, operand, paste_operator, replacement_tokens, role_of, string_of, substitutes_of}
use Rattle.cx_macro.specs.Replacement.Glues.{ends, goes_on, pastes}
use Rattle.cx_macro.specs.Replacement.JoinsSides.{right_empty}
use Rattle.cx_macro.specs.Strings.{spellings_of, unescaped}

abbrev somewhere : Place
somewhere = record { file = 0; line = 1; column = 1 }

abbrev token : Kind → Bool → List ℕ → Token
token kind space text = record { kind = kind; text = text; place = somewhere; hide = []; space = space; parts = []; digraph = false }

abbrev name : List ℕ → Token
name text = token Name false text

abbrev mark : List ℕ → Token
mark text = token Punct false text

-- ---- `#`: `str(: @\n)` of example 4

abbrev colon_argument : List Token
colon_argument = token Punct false (codes ":") ∷ token Other true (codes "@") ∷ token Other false (codes "\\") ∷ name (codes "n") ∷ []

colon_string : (string_of (mark (codes "#")) colon_argument).text ≡ codes "\": @\\n\""
unfolding string_of characters_of_all spelling_of
colon_string = refl

-- `xstr(strncmp("abc\0d", "abc", '\4') == 0)` of the same
abbrev strncmp_argument : List Token
strncmp_argument =
    name (codes "strncmp") ∷ mark (codes "(") ∷ token String false (codes "\"abc\\0d\"") ∷ mark (codes ",") ∷ token String true (codes "\"abc\"") ∷ mark (codes ",")
    ∷ token Char true (codes "'\\4'") ∷ mark (codes ")") ∷ token Punct true (codes "==") ∷ token Number true (codes "0") ∷ []

strncmp_string : (string_of (mark (codes "#")) strncmp_argument).text ≡ codes "\"strncmp(\\\"abc\\\\0d\\\", \\\"abc\\\", '\\\\4') == 0\""
unfolding string_of characters_of_all spelling_of
strncmp_string = refl

strncmp_unescaped : unescaped (characters_of_all strncmp_argument) ≡ spellings_of strncmp_argument
unfolding characters_of_all spelling_of
strncmp_unescaped = refl

-- a digraph keeps its spelling
digraph_string : (string_of (mark (codes "#")) ((record (mark (codes "[")) { digraph = true }) ∷ [])).text ≡ codes "\"<:\""
unfolding string_of characters_of_all spelling_of digraph_of
digraph_string = refl

-- ---- `#define t(x,y,z) x ## y ## z` of example 5: `t(10,,)`

abbrev three : Definition
three = record {
  parameters = Some (codes "x" ∷ codes "y" ∷ codes "z" ∷ []);
  variadic = false;
  body = name (codes "x") ∷ mark (codes "##") ∷ name (codes "y") ∷ mark (codes "##") ∷ name (codes "z") ∷ [];
}

abbrev ten : Token
ten = token Number false (codes "10")

abbrev ten_alone : Arguments
ten_alone = record { given = (ten ∷ []) ∷ [] ∷ [] ∷ []; left_out = false }

three_substitutes : substitutes_of three ten_alone ([] ∷ [] ∷ [] ∷ [])
    ≡ operand (ten ∷ []) ∷ paste_operator (mark (codes "##")) ∷ operand [] ∷ paste_operator (mark (codes "##")) ∷ operand [] ∷ []
unfolding substitutes_of role_of parameter_at is_punctuator
three_substitutes = refl

three_glued : Glues [] (operand (ten ∷ []) ∷ paste_operator (mark (codes "##")) ∷ operand [] ∷ paste_operator (mark (codes "##")) ∷ operand [] ∷ []) (Some (ten ∷ []))
three_glued = goes_on (pastes (ten ∷ []) right_empty (pastes (ten ∷ []) right_empty ends))

-- the argument beside `##` is not expanded
three_expands_none : is_expanded three 0 ≡ false
unfolding is_expanded role_of parameter_at is_punctuator
three_expands_none = refl

-- ---- `#define hash_hash # ## #` of 6.10.3.3: in an object-like macro a `#` is no operator

abbrev hash_hash : Definition
hash_hash = record { parameters = None; variadic = false; body = mark (codes "#") ∷ mark (codes "##") ∷ mark (codes "#") ∷ [] }

hash_hash_substitutes : substitutes_of hash_hash no_arguments []
    ≡ operand (mark (codes "#") ∷ []) ∷ paste_operator (mark (codes "##")) ∷ operand (mark (codes "#") ∷ []) ∷ []
unfolding substitutes_of role_of parameter_at is_punctuator
hash_hash_substitutes = refl

-- ---- `#define f(x) x #x`: the first x is expanded, and the second is the operand of `#`

abbrev both_ways : Definition
both_ways = record { parameters = Some (codes "x" ∷ []); variadic = false; body = name (codes "x") ∷ mark (codes "#") ∷ name (codes "x") ∷ [] }

both_ways_substitutes : substitutes_of both_ways (record { given = (name (codes "m") ∷ []) ∷ []; left_out = false }) ((ten ∷ []) ∷ [])
    ≡ operand (ten ∷ []) ∷ operand (token String false (codes "\"m\"") ∷ []) ∷ []
unfolding substitutes_of role_of parameter_at is_punctuator string_of characters_of_all spelling_of
both_ways_substitutes = refl

-- ---- GNU's comma: `#define p(a, ...) a , ## __VA_ARGS__`

abbrev gnu : Definition
gnu = record {
  parameters = Some (codes "a" ∷ []);
  variadic = true;
  body = name (codes "a") ∷ mark (codes ",") ∷ mark (codes "##") ∷ name (codes "__VA_ARGS__") ∷ [];
}

-- `p(1)` leaves the variable argument out, and the comma goes
gnu_left_out : substitutes_of gnu (record { given = (ten ∷ []) ∷ [] ∷ []; left_out = true }) ((ten ∷ []) ∷ [] ∷ []) ≡ operand (ten ∷ []) ∷ []
unfolding substitutes_of role_of parameter_at is_punctuator
gnu_left_out = refl

-- `p(1,)` does not, and the comma stays before nothing
gnu_empty : substitutes_of gnu (record { given = (ten ∷ []) ∷ [] ∷ []; left_out = false }) ((ten ∷ []) ∷ [] ∷ [])
    ≡ operand (ten ∷ []) ∷ operand (mark (codes ",") ∷ []) ∷ operand [] ∷ []
unfolding substitutes_of role_of parameter_at is_punctuator
gnu_empty = refl

-- the variable argument stands expanded, though a `##` is before it
gnu_expands : is_expanded gnu 1 ≡ true
unfolding is_expanded role_of parameter_at is_punctuator
gnu_expands = refl

-- `a , ## __VA_ARGS__ ## x` holds no GNU's comma
abbrev no_gnu : Definition
no_gnu = record {
  parameters = Some (codes "a" ∷ []);
  variadic = true;
  body = name (codes "a") ∷ mark (codes ",") ∷ mark (codes "##") ∷ name (codes "__VA_ARGS__") ∷ mark (codes "##") ∷ name (codes "x") ∷ [];
}

no_gnu_expands : is_expanded no_gnu 1 ≡ false
unfolding is_expanded role_of parameter_at is_punctuator
no_gnu_expands = refl

-- ---- hide sets: a token gets the name's place and space, and hides the macro

hidden : replacement_tokens (token Name true (codes "m")) (codes "m" ∷ []) (ten ∷ ten ∷ [])
    ≡ (record ten { hide = codes "m" ∷ []; space = true }) ∷ (record ten { hide = codes "m" ∷ [] }) ∷ []
unfolding replacement_tokens united
hidden = refl
