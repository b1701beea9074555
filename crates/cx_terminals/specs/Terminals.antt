-- The terminal symbol of each token (C11 6.4 and annex A.1).
use Rattle.std.specs.Prelude.{◌≡◌, ℕ, ◌+◌, Bool, true, false, List, [], ◌∷◌, filter, map, codes, bytes_eq, if◌then◌else◌, Option, Some, None}
use Rattle.std.specs.List.{position_or_len}
use Rattle.indexmap.specs.IndexSet.{insert_all}
use Rattle.cx_tokens.specs.declared.token.Kind.{Kind}
use Rattle.cx_tokens.specs.declared.token.Kind.TheVariants as kind
use Rattle.cx_tokens.specs.declared.token.Token.{Token}
use Rattle.cx_syntax_tree.specs.declared.terminals.Keyword.{Keyword}
use Rattle.cx_syntax_tree.specs.declared.terminals.Keyword.TheVariants as word
use Rattle.cx_syntax_tree.specs.declared.terminals.Punctuator.{Punctuator}
use Rattle.cx_syntax_tree.specs.declared.terminals.Punctuator.TheVariants as mark
use Rattle.cx_syntax_tree.specs.declared.terminals.Terminal.{Terminal}
use Rattle.cx_syntax_tree.specs.declared.terminals.Terminal.TheVariants as terminal_is
use Rattle.cx_syntax_tree.specs.declared.terminals.Lexeme.{Lexeme}

-- what stands beside a text in a table
unfoldable pub looked_up : {A : Type 0} → List ℕ → List (List ℕ × A) → Option A
looked_up text [] = None
looked_up text (row ∷ rows) = if bytes_eq text row.0 then Some row.1 else looked_up text rows

-- C11 6.4.1
abbrev pub keywords : List (List ℕ × Keyword)
keywords =
    (codes "auto", word.Other) ∷ (codes "break", word.Break) ∷ (codes "case", word.Case)
    ∷ (codes "char", word.Char) ∷ (codes "const", word.Const) ∷ (codes "continue", word.Continue)
    ∷ (codes "default", word.Default) ∷ (codes "do", word.Do) ∷ (codes "double", word.Other)
    ∷ (codes "else", word.Else) ∷ (codes "enum", word.Enum) ∷ (codes "extern", word.Extern)
    ∷ (codes "float", word.Other) ∷ (codes "for", word.For) ∷ (codes "goto", word.Goto)
    ∷ (codes "if", word.If) ∷ (codes "inline", word.Other) ∷ (codes "int", word.Int)
    ∷ (codes "long", word.Long) ∷ (codes "register", word.Other) ∷ (codes "restrict", word.Other)
    ∷ (codes "return", word.Return) ∷ (codes "short", word.Short) ∷ (codes "signed", word.Signed)
    ∷ (codes "sizeof", word.Sizeof) ∷ (codes "static", word.Static) ∷ (codes "struct", word.Struct)
    ∷ (codes "switch", word.Switch) ∷ (codes "typedef", word.Typedef) ∷ (codes "union", word.Union)
    ∷ (codes "unsigned", word.Unsigned) ∷ (codes "void", word.Void) ∷ (codes "volatile", word.Other)
    ∷ (codes "while", word.While) ∷ (codes "_Alignas", word.Other) ∷ (codes "_Alignof", word.Other)
    ∷ (codes "_Atomic", word.Other) ∷ (codes "_Bool", word.Bool) ∷ (codes "_Complex", word.Other)
    ∷ (codes "_Generic", word.Other) ∷ (codes "_Imaginary", word.Other)
    ∷ (codes "_Noreturn", word.Other) ∷ (codes "_Static_assert", word.Other)
    ∷ (codes "_Thread_local", word.Other) ∷ []

-- C11 6.4.6
abbrev pub punctuators : List (List ℕ × Punctuator)
punctuators =
    (codes "[", mark.OpenSquare) ∷ (codes "]", mark.CloseSquare) ∷ (codes "(", mark.OpenRound)
    ∷ (codes ")", mark.CloseRound) ∷ (codes "{", mark.OpenCurly) ∷ (codes "}", mark.CloseCurly)
    ∷ (codes ".", mark.Dot) ∷ (codes "->", mark.Arrow) ∷ (codes "++", mark.PlusPlus)
    ∷ (codes "--", mark.MinusMinus) ∷ (codes "&", mark.Ampersand) ∷ (codes "*", mark.Star)
    ∷ (codes "+", mark.Plus) ∷ (codes "-", mark.Minus) ∷ (codes "~", mark.Tilde)
    ∷ (codes "!", mark.Exclamation) ∷ (codes "/", mark.Slash) ∷ (codes "%", mark.Percent)
    ∷ (codes "<<", mark.LessLess) ∷ (codes ">>", mark.GreaterGreater) ∷ (codes "<", mark.Less)
    ∷ (codes ">", mark.Greater) ∷ (codes "<=", mark.LessEqual) ∷ (codes ">=", mark.GreaterEqual)
    ∷ (codes "==", mark.EqualEqual) ∷ (codes "!=", mark.ExclamationEqual) ∷ (codes "^", mark.Caret)
    ∷ (codes "|", mark.Bar) ∷ (codes "&&", mark.AmpersandAmpersand) ∷ (codes "||", mark.BarBar)
    ∷ (codes "?", mark.Question) ∷ (codes ":", mark.Colon) ∷ (codes ";", mark.Semicolon)
    ∷ (codes "...", mark.Ellipsis) ∷ (codes "=", mark.Equal) ∷ (codes "*=", mark.StarEqual)
    ∷ (codes "/=", mark.SlashEqual) ∷ (codes "%=", mark.PercentEqual) ∷ (codes "+=", mark.PlusEqual)
    ∷ (codes "-=", mark.MinusEqual) ∷ (codes "<<=", mark.LessLessEqual)
    ∷ (codes ">>=", mark.GreaterGreaterEqual) ∷ (codes "&=", mark.AmpersandEqual)
    ∷ (codes "^=", mark.CaretEqual) ∷ (codes "|=", mark.BarEqual) ∷ (codes ",", mark.Comma)
    ∷ (codes "#", mark.Hash) ∷ (codes "##", mark.HashHash) ∷ []

-- C11 6.4.1p2: a keyword is nothing else
abbrev pub word_terminal : List (List ℕ) → List ℕ → Option Keyword → Terminal
word_terminal names text (Some k) = terminal_is.Keyword k
word_terminal names text None = terminal_is.Name (position_or_len (bytes_eq text) names)

abbrev pub mark_terminal : Option Punctuator → Terminal
mark_terminal (Some m) = terminal_is.Punctuator m
mark_terminal None = terminal_is.Foreign

abbrev pub kind_terminal : List (List ℕ) → Kind → List ℕ → Terminal
kind_terminal names kind.Name text = word_terminal names text (looked_up text keywords)
kind_terminal names kind.Number text = terminal_is.Number
kind_terminal names kind.Char text = terminal_is.Char
kind_terminal names kind.String text = terminal_is.String
kind_terminal names kind.Unclosed text = terminal_is.Foreign
kind_terminal names kind.Header text = terminal_is.Foreign
kind_terminal names kind.Punct text = mark_terminal (looked_up text punctuators)
kind_terminal names kind.Other text = terminal_is.Foreign

-- the terminal symbol of a token, where no name is that of a type
unfoldable pub terminal_of : List (List ℕ) → Token → Terminal
terminal_of names t = kind_terminal names t.kind t.text

abbrev pub is_no_keyword : Option Keyword → Bool
is_no_keyword (Some k) = false
is_no_keyword None = true

abbrev pub is_identifier_of : Kind → List ℕ → Bool
is_identifier_of kind.Name text = is_no_keyword (looked_up text keywords)
is_identifier_of _ text = false

-- an identifier (C11 6.4.2)
unfoldable pub is_identifier : Token → Bool
is_identifier t = is_identifier_of t.kind t.text

-- the texts of the identifiers, in order
abbrev pub identifiers : List Token → List (List ℕ)
identifiers ts = map (λ t. t.text) (filter is_identifier ts)

-- each of them once, in the order in which they come first
unfoldable pub names_of : List Token → List (List ℕ)
names_of ts = insert_all bytes_eq [] (identifiers ts)

-- the tokens as the grammar sees them, the first of which has this number
unfoldable pub lexemes_from : List (List ℕ) → ℕ → List Token → List Lexeme
lexemes_from names n [] = []
lexemes_from names n (t ∷ ts) =
    record { terminal = terminal_of names t; at = n } ∷ lexemes_from names (n + 1) ts

unfoldable pub lexemes : List Token → List Lexeme
lexemes ts = lexemes_from (names_of ts) 0 ts

-- ---- questions about one token

-- the token is this punctuator
abbrev pub Is : Punctuator → Lexeme → Type 0
Is m p = p.terminal ≡ terminal_is.Punctuator m

-- the token is this keyword
abbrev pub IsWord : Keyword → Lexeme → Type 0
IsWord k p = p.terminal ≡ terminal_is.Keyword k

-- the token is an identifier that is no type name
abbrev pub IsName : ℕ → Lexeme → Type 0
IsName n p = p.terminal ≡ terminal_is.Name n

abbrev pub any_name : Terminal → Option ℕ
any_name (terminal_is.Name n) = Some n
any_name (terminal_is.TypeName n) = Some n
any_name _ = None

-- C11 6.2.3: the token is an identifier in a name space of its own, where it may also be a type
-- name
abbrev pub IsTag : ℕ → Lexeme → Type 0
IsTag n p = any_name p.terminal ≡ Some n
