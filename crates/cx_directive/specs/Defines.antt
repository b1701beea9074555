-- What `define` says (C11 6.10.3).
use Rattle.std.specs.Prelude.{ℕ, List, [], ◌∷◌, ◌++◌, Option, Some, None, Bool, true, false, not, ◌&&◌, if◌then◌else◌, option_and_then, option_map, option_to_list, map, bytes_eq, codes}
use Rattle.std.specs.List.{list_any, slice_split}
use Rattle.cx_tokens.specs.declared.token.Token.{Token}
use Rattle.cx_tokens.specs.Brackets.{is_punctuator}
use Rattle.cx_tokens.specs.Simplified.{is_name}
use Rattle.cx_macro.specs.Arguments.{is_close, is_comma, is_open}
use Rattle.cx_macro.specs.Macros.{Definition, hashes_stand, is_paste, variable_name}

-- The parameters of a macro: their names; and whether a variable argument stands after these, and
-- the name that GNU's form `name...` gives it.
pub record Parameters : Type 0 where
  pub names : List (List ℕ)
  pub variadic : Bool
  pub variable : Option (List ℕ)

abbrev pub is_dots : Token → Bool
is_dots t = is_punctuator (codes "...") t

-- what stands between two commas, where it is a name
abbrev pub one_name : List Token → Option (List ℕ)
one_name (t ∷ []) = if is_name t.kind then Some t.text else None
one_name _ = None

-- what stands after the last comma: a name, `...`, or a name with `...` after it
abbrev pub last_parameter : List Token → Option Parameters
last_parameter (t ∷ []) =
    if is_name t.kind then Some (record { names = t.text ∷ []; variadic = false; variable = None })
    else if is_dots t then Some (record { names = []; variadic = true; variable = None })
    else None
last_parameter (t ∷ u ∷ []) =
    if is_name t.kind && is_dots u
    then Some (record { names = []; variadic = true; variable = Some t.text })
    else None
last_parameter _ = None

-- the same with a name before them
abbrev pub with_name : List ℕ → Parameters → Parameters
with_name name p =
    record { names = name ∷ p.names; variadic = p.variadic; variable = p.variable }

-- parameters, by what stands between commas
unfoldable pub joined_parameters : List (List Token) → Option Parameters
joined_parameters [] = None
joined_parameters (last ∷ []) = last_parameter last
joined_parameters (part ∷ next ∷ more) =
    option_and_then
    (λ name. option_map (with_name name) (joined_parameters (next ∷ more))) (one_name part)

abbrev pub no_parameters : Parameters
no_parameters = record { names = []; variadic = false; variable = None }

-- what stands between the round brackets of parameters
unfoldable pub parameters_of : List Token → Option Parameters
parameters_of [] = Some no_parameters
parameters_of (t ∷ ts) = joined_parameters (slice_split is_comma (t ∷ ts))

-- the tokens before the first closing round bracket, and those after it
unfoldable pub cut_at_close : List Token → Option (List Token × List Token)
cut_at_close [] = None
cut_at_close (t ∷ ts) =
    if is_close t then Some ([], ts)
    else option_map (λ c. (t ∷ c.0, c.1)) (cut_at_close ts)

-- a name of a body that stands for the variable argument, under the one name that it has everywhere
abbrev pub renamed : List ℕ → Token → Token
renamed name t =
    if is_name t.kind && bytes_eq t.text name then record t { text = variable_name } else t

abbrev pub with_variable : Option (List ℕ) → List Token → List Token
with_variable None body = body
with_variable (Some name) body = map (renamed name) body

-- the macro with these parameters and this body
abbrev pub function_like : Parameters → List Token → Definition
function_like p body = record {
  parameters = Some p.names;
  variadic = p.variadic;
  body = with_variable p.variable body;
}

abbrev pub object_like : List Token → Definition
object_like body = record { parameters = None; variadic = false; body = body }

-- no two names are one
abbrev pub are_distinct : List (List ℕ) → Bool
are_distinct [] = true
are_distinct (name ∷ names) = not (list_any (bytes_eq name) names) && are_distinct names

-- the names of parameters, with the name of the variable argument
abbrev pub all_names : Parameters → List (List ℕ)
all_names p = p.names ++ option_to_list p.variable

-- a body neither begins nor ends with `##` (C11 6.10.3.3, paragraph 1)
abbrev pub begins_paste : List Token → Bool
begins_paste [] = false
begins_paste (t ∷ ts) = is_paste t

abbrev pub ends_paste : List Token → Bool
ends_paste [] = false
ends_paste (t ∷ []) = is_paste t
ends_paste (t ∷ u ∷ ts) = ends_paste (u ∷ ts)

abbrev pub pastes_stand : List Token → Bool
pastes_stand body = not (begins_paste body) && not (ends_paste body)

-- the definition, where it has no wrong form
abbrev pub well_formed : Bool → Definition → Option Definition
well_formed stands d = if stands && pastes_stand d.body then Some d else None

abbrev pub checked_function : Parameters → List Token → Option Definition
checked_function p body =
    well_formed
    (are_distinct (all_names p) && hashes_stand (function_like p body) (function_like p body).body)
    (function_like p body)

-- a function-like macro, by what stands after its opening bracket
unfoldable pub function_definition : List Token → Option Definition
function_definition ts =
    option_and_then
    (λ c. option_and_then (λ p. checked_function p c.1) (parameters_of c.0)) (cut_at_close ts)

-- The definition of a name, by what stands after it: parameters where a bracket stands directly
-- after it (C11 6.10, lparen).
unfoldable pub definition_after : List Token → Option Definition
definition_after [] = Some (object_like [])
definition_after (t ∷ ts) =
    if is_open t && not t.space then function_definition ts
    else well_formed true (object_like (t ∷ ts))

-- What `define` has: a name and its definition; or `None` where the form is wrong.
unfoldable pub defined_by : List Token → Option (List ℕ × Definition)
defined_by [] = None
defined_by (t ∷ ts) =
    if is_name t.kind then option_map (λ d. (t.text, d)) (definition_after ts) else None
