-- What a token is to the grammar of a first text (C11 6.4).
use Rattle.std.specs.Prelude.{ℕ, Bool, false, not, ◌&&◌, ◌==◌, nat_le, nat_lt, length, if◌then◌else◌, List, [], ◌∷◌, bytes_eq, codes}
use Rattle.std.specs.Borrow.{Bor}
use Rattle.std.specs.List.{list_all, list_any}
use Rattle.cx_tokens.specs.declared.token.Kind.{Kind}
use Rattle.cx_tokens.specs.declared.token.Kind.TheVariants as kind
use Rattle.cx_tokens.specs.declared.token.Token.{Token}
use Rattle.cx_lex.specs.Characters.{is_digit}
use Rattle.cx_first.specs.Numbers.{number_of, greatest}
use Rattle.cx_first.specs.declared.terminals.Terminal.{Terminal}
use Rattle.cx_first.specs.declared.terminals.Terminal.TheVariants as terminal_is

abbrev pub same : List ℕ → List ℕ → Bool
same word other = bytes_eq word other

-- a word among the references to words
abbrev pub is_one_of : List ℕ → List (Bor (List ℕ)) → Bool
is_one_of word table = list_any (λ other. same word other.now) table

-- C11 6.4.1
abbrev pub keywords : List (List ℕ)
keywords =
    codes "auto" ∷ codes "break" ∷ codes "case" ∷ codes "char" ∷ codes "const" ∷ codes "continue"
    ∷ codes "default" ∷ codes "do" ∷ codes "double" ∷ codes "else" ∷ codes "enum" ∷ codes "extern"
    ∷ codes "float" ∷ codes "for" ∷ codes "goto" ∷ codes "if" ∷ codes "inline" ∷ codes "int"
    ∷ codes "long" ∷ codes "register" ∷ codes "restrict" ∷ codes "return" ∷ codes "short"
    ∷ codes "signed" ∷ codes "sizeof" ∷ codes "static" ∷ codes "struct" ∷ codes "switch"
    ∷ codes "typedef" ∷ codes "union" ∷ codes "unsigned" ∷ codes "void" ∷ codes "volatile"
    ∷ codes "while" ∷ codes "_Alignas" ∷ codes "_Alignof" ∷ codes "_Atomic" ∷ codes "_Bool"
    ∷ codes "_Complex" ∷ codes "_Generic" ∷ codes "_Imaginary" ∷ codes "_Noreturn"
    ∷ codes "_Static_assert" ∷ codes "_Thread_local" ∷ []

unfoldable pub is_keyword : List ℕ → Bool
is_keyword word = list_any (same word) keywords

unfoldable pub word : List ℕ → Terminal
word text =
    if same text (codes "int") then terminal_is.Int
    else if same text (codes "void") then terminal_is.Void
    else if same text (codes "return") then terminal_is.Return
    else if is_keyword text then terminal_is.Foreign
    else terminal_is.Name

-- the punctuators ( ) { } , ; = + - * / by their codes
abbrev pub mark_of : ℕ → Terminal
mark_of byte =
    if byte == 40 then terminal_is.Open
    else if byte == 41 then terminal_is.Close
    else if byte == 123 then terminal_is.Begin
    else if byte == 125 then terminal_is.End
    else if byte == 44 then terminal_is.Comma
    else if byte == 59 then terminal_is.Semicolon
    else if byte == 61 then terminal_is.Equals
    else if byte == 43 then terminal_is.Plus
    else if byte == 45 then terminal_is.Minus
    else if byte == 42 then terminal_is.Star
    else if byte == 47 then terminal_is.Slash
    else terminal_is.Foreign

abbrev pub mark : List ℕ → Terminal
mark (byte ∷ []) = mark_of byte
mark text = terminal_is.Foreign

-- whether a number is a decimal constant that is a value of type int: digits, the first of which is
-- 0 only where it is alone (C11 6.4.4.1)
unfoldable pub is_int_constant : List ℕ → Bool
is_int_constant [] = false
is_int_constant (byte ∷ bytes) =
    list_all is_digit (byte ∷ bytes) && not (byte == 48 && nat_lt 0 (length bytes))
    && nat_le (number_of (byte ∷ bytes)) greatest

unfoldable pub number : List ℕ → Terminal
number text =
    if is_int_constant text then terminal_is.Number (number_of text) else terminal_is.Foreign

abbrev pub terminal_of : Kind → List ℕ → Terminal
terminal_of kind.Name text = word text
terminal_of kind.Number text = number text
terminal_of kind.Punct text = mark text
terminal_of kind.Char text = terminal_is.Foreign
terminal_of kind.String text = terminal_is.Foreign
terminal_of kind.Unclosed text = terminal_is.Foreign
terminal_of kind.Header text = terminal_is.Foreign
terminal_of kind.Other text = terminal_is.Foreign

unfoldable pub terminal : Token → Terminal
terminal token = terminal_of token.kind token.text
