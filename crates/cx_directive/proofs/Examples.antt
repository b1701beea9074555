-- The definitions, computed on small directives.
use Rattle.std.proofs.Common.{◌≡◌, ℕ, List, [], ◌∷◌, ◌++◌, Bool, true, false, Option, Some, None, codes, refl}
use Rattle.cx_base.specs.declared.place.Place.{Place}
use Rattle.cx_tokens.specs.Brackets.{is_punctuator}
use Rattle.cx_tokens.specs.declared.token.Kind.{Kind}
use Rattle.cx_tokens.specs.declared.token.Kind.TheVariants.{Header, Name, Number, Punct}
use Rattle.cx_tokens.specs.declared.token.Token.{Token}
use Rattle.cx_table.specs.NameTable.{value_of}
use Rattle.cx_macro.specs.Macros.{Definition, Table, parameter_at}
use Rattle.cx_directive.specs.Answers.{answered}
use Rattle.cx_directive.specs.Defines.{cut_at_close, defined_by, definition_after, function_definition, joined_parameters, parameters_of}
use Rattle.cx_directive.specs.Operands.{name_of, spelled, target_of}

abbrev somewhere : Place
somewhere = record { file = 0; line = 1; column = 1 }

abbrev token : Bool → Kind → List ℕ → Token
token space kind text = record { kind = kind; text = text; place = somewhere; hide = []; space = space; parts = []; digraph = false }

abbrev name : List ℕ → Token
name text = token false Name text

abbrev number : List ℕ → Token
number text = token false Number text

abbrev sign : List ℕ → Token
sign text = token false Punct text

-- the same with a space before it
abbrev spaced : Token → Token
spaced t = record t { space = true }

abbrev a : Token
a = name (codes "a")

abbrev b : Token
b = name (codes "b")

abbrev dots : Token
dots = sign (codes "...")

abbrev comma : Token
comma = sign (codes ",")

abbrev opening : Token
opening = sign (codes "(")

abbrev closing : Token
closing = sign (codes ")")

abbrev hash : Token
hash = sign (codes "#")

abbrev paste : Token
paste = sign (codes "##")

-- `f`, these parameters in brackets, and this body
abbrev f_with : List Token → List Token → List Token
f_with inner body = name (codes "f") ∷ opening ∷ (inner ++ closing ∷ body)

abbrev f_is : List (List ℕ) → Bool → List Token → Option (List ℕ × Definition)
f_is names variadic body = Some (codes "f", record { parameters = Some names; variadic = variadic; body = body })

abbrev a_is : List Token → Option (List ℕ × Definition)
a_is body = Some (codes "a", record { parameters = None; variadic = false; body = body })

-- ---- parameters

-- `f(a) b`, `f() a` and `f(...) a`
one_parameter : defined_by (f_with (a ∷ []) (b ∷ [])) ≡ f_is (codes "a" ∷ []) false (b ∷ [])
unfolding defined_by definition_after function_definition cut_at_close parameters_of joined_parameters is_punctuator
one_parameter = refl

no_parameter : defined_by (f_with [] (a ∷ [])) ≡ f_is [] false (a ∷ [])
unfolding defined_by definition_after function_definition cut_at_close parameters_of joined_parameters is_punctuator
no_parameter = refl

dots_alone : defined_by (f_with (dots ∷ []) (a ∷ [])) ≡ f_is [] true (a ∷ [])
unfolding defined_by definition_after function_definition cut_at_close parameters_of joined_parameters is_punctuator
dots_alone = refl

-- `f(a, b...) b a`: in the body `b` has the name of the variable argument
named_dots : defined_by (f_with (a ∷ comma ∷ b ∷ dots ∷ []) (b ∷ a ∷ [])) ≡ f_is (codes "a" ∷ []) true (name (codes "__VA_ARGS__") ∷ a ∷ [])
unfolding defined_by definition_after function_definition cut_at_close parameters_of joined_parameters is_punctuator
named_dots = refl

-- `f(a,)`, `f(a a)`, `f(a,a)`, `f(a,a...)`, `f(..., a)`, and `f(a` without its end
empty_last : defined_by (f_with (a ∷ comma ∷ []) (a ∷ [])) ≡ None
unfolding defined_by definition_after function_definition cut_at_close parameters_of joined_parameters is_punctuator
empty_last = refl

two_names : defined_by (f_with (a ∷ a ∷ []) (a ∷ [])) ≡ None
unfolding defined_by definition_after function_definition cut_at_close parameters_of joined_parameters is_punctuator
two_names = refl

name_twice : defined_by (f_with (a ∷ comma ∷ a ∷ []) (a ∷ [])) ≡ None
unfolding defined_by definition_after function_definition cut_at_close parameters_of joined_parameters is_punctuator
name_twice = refl

dots_named_twice : defined_by (f_with (a ∷ comma ∷ a ∷ dots ∷ []) (a ∷ [])) ≡ None
unfolding defined_by definition_after function_definition cut_at_close parameters_of joined_parameters is_punctuator
dots_named_twice = refl

dots_first : defined_by (f_with (dots ∷ comma ∷ a ∷ []) (a ∷ [])) ≡ None
unfolding defined_by definition_after function_definition cut_at_close parameters_of joined_parameters is_punctuator
dots_first = refl

no_end : defined_by (name (codes "f") ∷ opening ∷ a ∷ []) ≡ None
unfolding defined_by definition_after function_definition cut_at_close is_punctuator
no_end = refl

-- ---- bodies

-- `f(a) a ## b` and `f(a) # a`
paste_within : defined_by (f_with (a ∷ []) (a ∷ paste ∷ b ∷ [])) ≡ f_is (codes "a" ∷ []) false (a ∷ paste ∷ b ∷ [])
unfolding defined_by definition_after function_definition cut_at_close parameters_of joined_parameters is_punctuator
paste_within = refl

hash_before_parameter : defined_by (f_with (a ∷ []) (hash ∷ a ∷ [])) ≡ f_is (codes "a" ∷ []) false (hash ∷ a ∷ [])
unfolding defined_by definition_after function_definition cut_at_close parameters_of joined_parameters is_punctuator parameter_at
hash_before_parameter = refl

-- `f(a...) # a`: what stands after the `#` has the name of the variable argument
hash_before_dots : defined_by (f_with (a ∷ dots ∷ []) (hash ∷ a ∷ [])) ≡ f_is [] true (hash ∷ name (codes "__VA_ARGS__") ∷ [])
unfolding defined_by definition_after function_definition cut_at_close parameters_of joined_parameters is_punctuator parameter_at
hash_before_dots = refl

-- `f(a) ## a`, `f(a) a ##`, `f(a) # b` and `f(a) a #`
paste_first : defined_by (f_with (a ∷ []) (paste ∷ a ∷ [])) ≡ None
unfolding defined_by definition_after function_definition cut_at_close parameters_of joined_parameters is_punctuator
paste_first = refl

paste_last : defined_by (f_with (a ∷ []) (a ∷ paste ∷ [])) ≡ None
unfolding defined_by definition_after function_definition cut_at_close parameters_of joined_parameters is_punctuator
paste_last = refl

hash_before_another : defined_by (f_with (a ∷ []) (hash ∷ b ∷ [])) ≡ None
unfolding defined_by definition_after function_definition cut_at_close parameters_of joined_parameters is_punctuator parameter_at
hash_before_another = refl

hash_last : defined_by (f_with (a ∷ []) (a ∷ hash ∷ [])) ≡ None
unfolding defined_by definition_after function_definition cut_at_close parameters_of joined_parameters is_punctuator parameter_at
hash_last = refl

-- `a ## b` with a `##` first or last is wrong without parameters too, and a `#` is not
object_paste_first : defined_by (a ∷ spaced paste ∷ b ∷ []) ≡ None
unfolding defined_by definition_after is_punctuator
object_paste_first = refl

object_hash : defined_by (a ∷ spaced hash ∷ b ∷ []) ≡ a_is (spaced hash ∷ b ∷ [])
unfolding defined_by definition_after is_punctuator
object_hash = refl

-- ---- names

-- `a`, `a +1`, `a+1`, and `a (b)`: a bracket after a space belongs to the body
name_alone : defined_by (a ∷ []) ≡ a_is []
unfolding defined_by definition_after
name_alone = refl

sum_after_space : defined_by (a ∷ spaced (sign (codes "+")) ∷ number (codes "1") ∷ []) ≡ a_is (spaced (sign (codes "+")) ∷ number (codes "1") ∷ [])
unfolding defined_by definition_after is_punctuator
sum_after_space = refl

sum_directly : defined_by (a ∷ sign (codes "+") ∷ number (codes "1") ∷ []) ≡ a_is (sign (codes "+") ∷ number (codes "1") ∷ [])
unfolding defined_by definition_after is_punctuator
sum_directly = refl

bracket_after_space : defined_by (a ∷ spaced opening ∷ b ∷ closing ∷ []) ≡ a_is (spaced opening ∷ b ∷ closing ∷ [])
unfolding defined_by definition_after is_punctuator
bracket_after_space = refl

bracket_directly : defined_by (a ∷ opening ∷ b ∷ closing ∷ []) ≡ Some (codes "a", record { parameters = Some (codes "b" ∷ []); variadic = false; body = [] })
unfolding defined_by definition_after function_definition cut_at_close parameters_of joined_parameters is_punctuator
bracket_directly = refl

-- nothing, and a number
nothing_named : defined_by [] ≡ None
unfolding defined_by
nothing_named = refl

number_named : defined_by (number (codes "1") ∷ a ∷ []) ≡ None
unfolding defined_by
number_named = refl

-- ---- conditions, where `a` alone is a macro

abbrev table : Table
table = (codes "a", record { parameters = None; variadic = false; body = [] }) ∷ []

abbrev question : Token
question = name (codes "defined")

-- `defined a`, `defined b`, `defined ( a )`, with what stands behind
bare : answered table (question ∷ a ∷ comma ∷ []) ≡ number (codes "1") ∷ comma ∷ []
unfolding answered value_of
bare = refl

bare_other : answered table (question ∷ b ∷ []) ≡ number (codes "0") ∷ []
unfolding answered value_of
bare_other = refl

in_brackets : answered table (question ∷ opening ∷ a ∷ closing ∷ []) ≡ number (codes "1") ∷ []
unfolding answered value_of is_punctuator
in_brackets = refl

in_brackets_other : answered table (question ∷ opening ∷ b ∷ closing ∷ comma ∷ []) ≡ number (codes "0") ∷ comma ∷ []
unfolding answered value_of is_punctuator
in_brackets_other = refl

-- the answer stands where the `defined` stood
space_is_kept : answered table (spaced question ∷ spaced a ∷ []) ≡ spaced (number (codes "1")) ∷ []
unfolding answered value_of
space_is_kept = refl

-- `defined`, `defined 3`, `defined ( a` and `a` stay; in `defined defined a` the second is the name
stays_alone : answered table (question ∷ []) ≡ question ∷ []
unfolding answered
stays_alone = refl

stays_before_number : answered table (question ∷ number (codes "3") ∷ []) ≡ question ∷ number (codes "3") ∷ []
unfolding answered
stays_before_number = refl

stays_unclosed : answered table (question ∷ opening ∷ a ∷ []) ≡ question ∷ opening ∷ a ∷ []
unfolding answered
stays_unclosed = refl

stays_macro : answered table (a ∷ []) ≡ a ∷ []
unfolding answered
stays_macro = refl

question_asked : answered table (question ∷ question ∷ a ∷ []) ≡ number (codes "0") ∷ a ∷ []
unfolding answered value_of
question_asked = refl

-- ---- operands

-- `a ( b)+` has one space where there are any
spaces_kept : spelled (spaced a ∷ spaced opening ∷ spaced b ∷ closing ∷ sign (codes "+") ∷ []) ≡ codes "a ( b)+"
unfolding spelled
spaces_kept = refl

name_first : name_of (a ∷ number (codes "1") ∷ []) ≡ Some (codes "a")
name_first = refl

number_first : name_of (number (codes "1") ∷ a ∷ []) ≡ None
number_first = refl

-- `"a.h"`, `<a.h> b` and `a b`
quoted_header : target_of (token true Header (codes "\"a.h\"") ∷ []) ≡ Some (record { name = record { name = codes "a.h"; quoted = true; at = somewhere }; computed = false })
unfolding target_of
quoted_header = refl

angled_header : target_of (token true Header (codes "<a.h>") ∷ b ∷ []) ≡ Some (record { name = record { name = codes "a.h"; quoted = false; at = somewhere }; computed = false })
unfolding target_of
angled_header = refl

other_tokens : target_of (spaced a ∷ spaced b ∷ []) ≡ Some (record { name = record { name = codes "a b"; quoted = true; at = somewhere }; computed = true })
unfolding target_of spelled
other_tokens = refl

no_target : target_of [] ≡ None
unfolding target_of
no_target = refl
