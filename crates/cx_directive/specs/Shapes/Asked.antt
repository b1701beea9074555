-- What a `defined` asks for, by the front of the tokens after it.
use Rattle.std.specs.Prelude.{ℕ, List, [], ◌∷◌, Option, Some, None, if◌then◌else◌}
use Rattle.cx_tokens.specs.declared.token.Token.{Token}
use Rattle.cx_tokens.specs.Simplified.{is_name}
use Rattle.cx_directive.specs.Answers.{is_bracketed_name, is_question}

-- a name in brackets, and the tokens after these
abbrev pub bracketed : List Token → Option (List ℕ × List Token)
bracketed (a ∷ b ∷ c ∷ rest) = if is_bracketed_name a b c then Some (b.text, rest) else None
bracketed _ = None

-- a name, bare or in brackets, and the tokens after it
abbrev pub asked : List Token → Option (List ℕ × List Token)
asked [] = None
asked (a ∷ rest) = if is_name a.kind then Some (a.text, rest) else bracketed (a ∷ rest)

-- the same, where a token is `defined`
abbrev pub asked_by : Token → List Token → Option (List ℕ × List Token)
asked_by t ts = if is_question t then asked ts else None
