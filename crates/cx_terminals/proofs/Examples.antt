-- The definitions of this crate on a small list of tokens, computed.
use Rattle.std.proofs.Common.{◌≡◌, refl, ℕ, List, [], ◌∷◌, Some, None, codes, true, false}
use Rattle.cx_tokens.specs.declared.token.Kind.{Kind}
use Rattle.cx_tokens.specs.declared.token.Kind.TheVariants as kind
use Rattle.cx_tokens.specs.declared.token.Token.{Token}
use Rattle.cx_syntax_tree.specs.declared.terminals.Keyword.TheVariants as word
use Rattle.cx_syntax_tree.specs.declared.terminals.Punctuator.TheVariants as mark
use Rattle.cx_syntax_tree.specs.declared.terminals.Terminal.{Terminal}
use Rattle.cx_syntax_tree.specs.declared.terminals.Terminal.TheVariants as terminal_is
use Rattle.cx_syntax_tree.specs.declared.terminals.Lexeme.{Lexeme}
use Rattle.cx_terminals.specs.Terminals.{any_name, is_identifier, lexemes, lexemes_from, looked_up, names_of, terminal_of}

token : Kind → List ℕ → Token
token k text = record {
  kind = k;
  text = text;
  place = record { file = 0; line = 1; column = 1 };
  hide = [];
  space = true;
  parts = [];
  digraph = false;
}

lexeme : Terminal → ℕ → Lexeme
lexeme t at = record { terminal = t; at = at }

-- x <<= y while x 1 @
some_tokens : List Token
some_tokens =
    token kind.Name (codes "x") ∷ token kind.Punct (codes "<<=") ∷ token kind.Name (codes "y")
    ∷ token kind.Name (codes "while") ∷ token kind.Name (codes "x")
    ∷ token kind.Number (codes "1") ∷ token kind.Other (codes "@") ∷ []

-- C11 6.4.1p2: a keyword is no identifier; x is one, and is told once
two_names : names_of some_tokens ≡ codes "x" ∷ codes "y" ∷ []
unfolding some_tokens token names_of is_identifier looked_up
two_names = refl

-- .. and x has the number of its text at both places
seven_lexemes : lexemes some_tokens
    ≡ lexeme (terminal_is.Name 0) 0 ∷ lexeme (terminal_is.Punctuator mark.LessLessEqual) 1
    ∷ lexeme (terminal_is.Name 1) 2 ∷ lexeme (terminal_is.Keyword word.While) 3
    ∷ lexeme (terminal_is.Name 0) 4 ∷ lexeme terminal_is.Number 5 ∷ lexeme terminal_is.Foreign 6
    ∷ []
unfolding some_tokens token lexeme names_of is_identifier looked_up lexemes lexemes_from terminal_of
seven_lexemes = refl

-- a punctuator's text is no name's: "x" among punctuators is foreign to the grammar
no_punctuator : terminal_of [] (token kind.Punct (codes "x")) ≡ terminal_is.Foreign
unfolding token terminal_of looked_up
no_punctuator = refl

-- a text without its end is foreign too, whatever stands in it
no_end : terminal_of (codes "\"x" ∷ []) (token kind.Unclosed (codes "\"x")) ≡ terminal_is.Foreign
unfolding token terminal_of
no_end = refl

-- C11 6.2.3: a tag may be spelt as the name of a type, a keyword not
type_as_tag : any_name (terminal_is.TypeName 3) ≡ Some 3
type_as_tag = refl

keyword_as_tag : any_name (terminal_is.Keyword word.Int) ≡ None
keyword_as_tag = refl
