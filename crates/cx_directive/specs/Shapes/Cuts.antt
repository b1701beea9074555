-- Tokens, cut at the first that passes a test; and what stands after an opening bracket.
use Rattle.std.specs.Prelude.{List, [], ◌∷◌, Option, Some, None, Bool, not, ◌&&◌, if◌then◌else◌, option_map}
use Rattle.cx_tokens.specs.declared.token.Token.{Token}
use Rattle.cx_macro.specs.Arguments.{is_open}

-- the tokens before the first that passes, and those after it
unfoldable pub cut_at : (Token → Bool) → List Token → Option (List Token × List Token)
cut_at p [] = None
cut_at p (t ∷ ts) = if p t then Some ([], ts) else option_map (λ c. (t ∷ c.0, c.1)) (cut_at p ts)

-- the tokens after an opening bracket, where one stands first, with no space before it
abbrev pub after_bracket : List Token → Option (List Token)
after_bracket [] = None
after_bracket (t ∷ ts) = if is_open t && not t.space then Some ts else None
