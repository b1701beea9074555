-- Brackets and arguments found by counting the brackets that are open: `bracketed` computes `IsBracketed` (law
-- `bracketed_if` and `bracketed_only`), and `arguments_of` computes `AreArguments` (`arguments_if`, `arguments_only`).
use Rattle.std.specs.Prelude.{ℕ, zero, suc, ◌+◌, ◌-◌, List, [], ◌∷◌, ◌++◌, Bool, true, false, if◌then◌else◌, ◌&&◌, ◌||◌, ◌==◌, Option, Some, None, is_none}
use Rattle.cx_tokens.specs.declared.token.Token.{Token}
use Rattle.cx_macro.specs.Arguments.{Arguments, Bracketed, is_close, is_comma, is_open, no_arguments}

abbrev pub with_inner : Token → Option Bracketed → Option Bracketed
with_inner t None = None
with_inner t (Some b) = Some (record { inner = t ∷ b.inner; closing = b.closing; after = b.after })

-- what stands after an opening bracket, with so many more brackets open inside of it
unfoldable pub bracketed : ℕ → List Token → Option Bracketed
bracketed depth [] = None
bracketed zero (t ∷ ts) =
    if is_close t then Some (record { inner = []; closing = t; after = ts })
    else with_inner t (bracketed (if is_open t then 1 else 0) ts)
bracketed (suc d) (t ∷ ts) =
    with_inner t (bracketed (if is_close t then d else if is_open t then suc (suc d) else suc d) ts)

-- A front of tokens, and what stands after the comma after it, where one is there.
pub record Cut : Type 0 where
  pub front : List Token
  pub after : Option (List Token)

abbrev pub with_front : Token → Cut → Cut
with_front t cut = record { front = t ∷ cut.front; after = cut.after }

-- the tokens up to the first comma outside of brackets, where so many are open
unfoldable pub cut_at_comma : ℕ → List Token → Cut
cut_at_comma depth [] = record { front = []; after = None }
cut_at_comma depth (t ∷ ts) =
    if is_comma t && (depth == 0) then record { front = []; after = Some ts }
    else with_front t
    (cut_at_comma (if is_open t then depth + 1 else if is_close t then depth - 1 else depth) ts)

-- The arguments of the named parameters, and what stands after the comma after them, where one is
-- there.
pub record Named : Type 0 where
  pub arguments : List (List Token)
  pub after : Option (List Token)

abbrev pub with_argument : List Token → Option Named → Option Named
with_argument argument None = None
with_argument argument (Some named) =
    Some (record { arguments = argument ∷ named.arguments; after = named.after })

-- as many arguments as parameters have names
unfoldable pub named_arguments : ℕ → Option (List Token) → Option Named
named_arguments zero text = Some (record { arguments = []; after = text })
named_arguments (suc n) None = None
named_arguments (suc n) (Some ts) =
    with_argument (cut_at_comma 0 ts).front (named_arguments n (cut_at_comma 0 ts).after)

abbrev pub tokens_or_none : Option (List Token) → List Token
tokens_or_none None = []
tokens_or_none (Some ts) = ts

-- nothing stands between the brackets of a call of a macro without named parameters
abbrev pub is_nothing : ℕ → List Token → Bool
is_nothing zero [] = true
is_nothing n inner = false

abbrev pub with_variable : Bool → Bool → Option Named → Option Arguments
with_variable variadic nothing None = None
with_variable true nothing (Some named) = Some (record {
  given = named.arguments ++ tokens_or_none named.after ∷ [];
  left_out = nothing || is_none named.after;
})
with_variable false nothing (Some named) = without_more named.arguments named.after
  where
    without_more : List (List Token) → Option (List Token) → Option Arguments
    without_more arguments None = Some (record { given = arguments; left_out = false })
    without_more arguments (Some ts) = None

-- the arguments of a call: one for each parameter, and after them the variable one; None where
-- their number does not fit
unfoldable pub arguments_of : ℕ → Bool → List Token → Option Arguments
arguments_of zero false [] = Some no_arguments
arguments_of n variadic inner =
    with_variable variadic (is_nothing n inner) (named_arguments n (Some inner))
