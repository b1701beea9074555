-- Invocations of function-like macros, and their arguments (C11 6.10.3, paragraphs 4 and 10 to 12).
use Rattle.std.specs.Prelude.{◌≡◌, ℕ, ◌<◌, List, [], ◌∷◌, ◌++◌, Bool, true, false, length, codes}
use Rattle.cx_tokens.specs.declared.token.Token.{Token}
use Rattle.cx_tokens.specs.Brackets.{is_punctuator}

abbrev pub is_open : Token → Bool
is_open t = is_punctuator (codes "(") t

abbrev pub is_close : Token → Bool
is_close t = is_punctuator (codes ")") t

abbrev pub is_comma : Token → Bool
is_comma t = is_punctuator (codes ",") t

-- an opening bracket is the next token
abbrev pub begins_call : List Token → Bool
begins_call [] = false
begins_call (t ∷ ts) = is_open t

-- Tokens whose round brackets are nested.
pub data IsRoundNested : List Token → Type 0 where
  nested_ends : IsRoundNested []
  nested_token : {t : Token} {ts : List Token} → is_open t ≡ false → is_close t ≡ false
      → IsRoundNested ts → IsRoundNested (t ∷ ts)
  nested_brackets : {opening : Token} {inner ts : List Token} (closing : Token)
      → is_open opening ≡ true → IsRoundNested inner → is_close closing ≡ true → IsRoundNested ts
      → IsRoundNested (opening ∷ (inner ++ closing ∷ ts))

-- What stands between the brackets of an invocation, the closing one, and what stands after it.
pub record Bracketed : Type 0 where
  pub inner : List Token
  pub closing : Token
  pub after : List Token

-- The tokens after an opening bracket, up to the one that closes it.
pub record IsBracketed (ts : List Token) (b : Bracketed) : Type 0 where
  pub whole : ts ≡ b.inner ++ b.closing ∷ b.after
  pub nested : IsRoundNested b.inner
  pub closes : is_close b.closing ≡ true

-- One argument: its round brackets are nested, and no comma stands outside of them.
pub data IsArgument : List Token → Type 0 where
  argument_ends : IsArgument []
  argument_token : {t : Token} {ts : List Token} → is_open t ≡ false → is_close t ≡ false
      → is_comma t ≡ false → IsArgument ts → IsArgument (t ∷ ts)
  argument_brackets : {opening : Token} {inner ts : List Token} (closing : Token)
      → is_open opening ≡ true → IsRoundNested inner → is_close closing ≡ true → IsArgument ts
      → IsArgument (opening ∷ (inner ++ closing ∷ ts))

-- AreJoined arguments tokens: the arguments with a comma between each two are the tokens.
pub data AreJoined : List (List Token) → List Token → Type 0 where
  no_argument : AreJoined [] []
  last_argument : {a : List Token} → IsArgument a → AreJoined (a ∷ []) a
  more_arguments : {a b ts : List Token} {more : List (List Token)} (comma : Token)
      → IsArgument a → is_comma comma ≡ true → AreJoined (b ∷ more) ts
      → AreJoined (a ∷ b ∷ more) (a ++ comma ∷ ts)

-- The arguments of an invocation, one for each parameter and then the variable one; and whether the
-- invocation leaves that out.
pub record Arguments : Type 0 where
  pub given : List (List Token)
  pub left_out : Bool

abbrev pub no_arguments : Arguments
no_arguments = record { given = []; left_out = false }

-- AreArguments n variadic inner arguments: what stands between the brackets gives these to n
-- parameters, and to `...` after them. The variable argument is all that stands after the comma
-- after the others, with the commas in it.
pub data AreArguments (n : ℕ) : Bool → List Token → Arguments → Type 0 where
  each_given : {inner : List Token} {given : List (List Token)} → AreJoined given inner
      → length given ≡ n
      → AreArguments n false inner (record { given = given; left_out = false })
  variable_left_out : {inner : List Token} {given : List (List Token)} → AreJoined given inner
      → length given ≡ n
      → AreArguments n true inner (record { given = given ++ [] ∷ []; left_out = true })
  variable_given : {inner front variable : List Token} {given : List (List Token)} (comma : Token)
      → inner ≡ front ++ comma ∷ variable → AreJoined given front → length given ≡ n → 0 < n
      → is_comma comma ≡ true → IsRoundNested variable
      → AreArguments n true inner (record { given = given ++ variable ∷ []; left_out = false })
  variable_alone : {inner : List Token} → IsRoundNested inner → 0 < length inner → n ≡ 0
      → AreArguments n true inner (record { given = inner ∷ []; left_out = false })
