-- Tokens by their outermost brackets.
use Rattle.std.specs.Prelude.{◌≡◌, Bool, true, false, List, [], ◌∷◌, ◌++◌, Option, Some, None}
use Rattle.cx_syntax_tree.specs.declared.terminals.Punctuator.{Punctuator}
use Rattle.cx_syntax_tree.specs.declared.terminals.Punctuator.TheVariants as mark
use Rattle.cx_syntax_tree.specs.declared.terminals.Terminal.{Terminal}
use Rattle.cx_syntax_tree.specs.declared.terminals.Terminal.TheVariants as terminal_is
use Rattle.cx_syntax_tree.specs.declared.terminals.Lexeme.{Lexeme}

-- the closing bracket that fits an opening one
abbrev pub closing_mark : Punctuator → Option Punctuator
closing_mark mark.OpenRound = Some mark.CloseRound
closing_mark mark.OpenSquare = Some mark.CloseSquare
closing_mark mark.OpenCurly = Some mark.CloseCurly
closing_mark _ = None

abbrev pub is_closing : Punctuator → Bool
is_closing mark.CloseRound = true
is_closing mark.CloseSquare = true
is_closing mark.CloseCurly = true
is_closing _ = false

abbrev pub mark_of : Terminal → Option Punctuator
mark_of (terminal_is.Punctuator m) = Some m
mark_of _ = None

-- the token is no bracket
abbrev pub is_plain_mark : Punctuator → Bool
is_plain_mark mark.OpenRound = false
is_plain_mark mark.OpenSquare = false
is_plain_mark mark.OpenCurly = false
is_plain_mark mark.CloseRound = false
is_plain_mark mark.CloseSquare = false
is_plain_mark mark.CloseCurly = false
is_plain_mark _ = true

abbrev pub is_plain_terminal : Terminal → Bool
is_plain_terminal (terminal_is.Punctuator m) = is_plain_mark m
is_plain_terminal _ = true

unfoldable pub is_plain : Lexeme → Bool
is_plain p = is_plain_terminal p.terminal

-- a bracket and the one that closes it
pub record Pairs (p q : Lexeme) : Type 0 where
  pub opening : Punctuator
  pub closing : Punctuator
  pub opens : p.terminal ≡ terminal_is.Punctuator opening
  pub closes : q.terminal ≡ terminal_is.Punctuator closing
  pub fits : closing_mark opening ≡ Some closing

-- a token outside all brackets, or an outermost pair of brackets with the tokens between
pub data Part : Type 0 where
  alone : (token : Lexeme) → Part
  group : (opening : Lexeme) (inner : List Lexeme) (closing : Lexeme) → Part

abbrev pub spelled : Part → List Lexeme
spelled (alone p) = p ∷ []
spelled (group p inner q) = p ∷ (inner ++ q ∷ [])

-- the tokens of parts, in order
unfoldable pub tokens_of : List Part → List Lexeme
tokens_of [] = []
tokens_of (x ∷ xs) = spelled x ++ tokens_of xs

-- IsParts ts parts: all brackets of the tokens are paired, and these are their parts
pub data IsParts : List Lexeme → List Part → Type 0 where
  no_parts : IsParts [] []
  a_token : {p : Lexeme} {ts : List Lexeme} {parts : List Part} → is_plain p ≡ true
      → IsParts ts parts → IsParts (p ∷ ts) (alone p ∷ parts)
  a_group : {p q : Lexeme} {all inner ts : List Lexeme} {within parts : List Part}
      → all ≡ p ∷ (inner ++ q ∷ ts) → Pairs p q → IsParts inner within → IsParts ts parts
      → IsParts all (group p inner q ∷ parts)
