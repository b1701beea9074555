-- What a token invokes, test by test: `invocation_of` computes `IsInvocation` (laws `invocation_if`
-- and `invocation_only`).
use Rattle.std.specs.Prelude.{ℕ, List, [], ◌∷◌, Bool, if◌then◌else◌, not, ◌&&◌, Option, Some, None}
use Rattle.cx_tokens.specs.declared.token.Token.{Token}
use Rattle.cx_tokens.specs.Simplified.{is_name}
use Rattle.cx_macro.specs.Arguments.{Bracketed, is_open}
use Rattle.cx_macro.specs.Expansion.{Invocation, definition_at, no_invocation, of_function, of_object, unclosed}
use Rattle.cx_macro.specs.Hiding.{is_among}
use Rattle.cx_macro.specs.Macros.{Definition, Table}
use Rattle.cx_macro.specs.Shapes.Counting.{bracketed}

-- a name that its hide set does not hold
abbrev pub may_be_replaced : Token → Bool
may_be_replaced t = is_name t.kind && not (is_among t.hide t.text)

abbrev pub call_of : Definition → List (List ℕ) → Option Bracketed → Invocation
call_of d parameters None = unclosed
call_of d parameters (Some b) = of_function d parameters b

abbrev pub invocation_by : Definition → Option (List (List ℕ)) → List Token → Invocation
invocation_by d None rest = of_object d
invocation_by d (Some parameters) [] = no_invocation
invocation_by d (Some parameters) (t ∷ ts) =
    if is_open t then call_of d parameters (bracketed 0 ts) else no_invocation

abbrev pub invocation_with : Option Definition → List Token → Invocation
invocation_with None rest = no_invocation
invocation_with (Some d) rest = invocation_by d d.parameters rest

unfoldable pub invocation_of : Table → Token → List Token → Invocation
invocation_of table t rest = invocation_with (definition_at table t) rest
