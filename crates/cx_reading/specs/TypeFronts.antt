-- What a type without a body begins with, and what may stand behind it.
use Rattle.std.specs.Prelude.{◌≡◌, ◌||◌, Bool, true, false, List}
use Rattle.cx_syntax_tree.specs.declared.terminals.Keyword.{Keyword}
use Rattle.cx_syntax_tree.specs.declared.terminals.Keyword.TheVariants as word
use Rattle.cx_syntax_tree.specs.declared.terminals.Punctuator.TheVariants as mark
use Rattle.cx_syntax_tree.specs.declared.terminals.Terminal.{Terminal}
use Rattle.cx_syntax_tree.specs.declared.terminals.Terminal.TheVariants as terminal_is
use Rattle.cx_syntax_tree.specs.declared.terminals.Lexeme.{Lexeme}
use Rattle.cx_reading.specs.Parsing.{front}

-- C11 6.7.1 and 6.7.3
abbrev pub is_specifier_word : Keyword → Bool
is_specifier_word word.Typedef = true
is_specifier_word word.Static = true
is_specifier_word word.Extern = true
is_specifier_word word.Const = true
is_specifier_word _ = false

-- the keywords of the integer types (C11 6.7.2)
abbrev pub is_integer_word : Keyword → Bool
is_integer_word word.Short = true
is_integer_word word.Int = true
is_integer_word word.Long = true
is_integer_word word.Signed = true
is_integer_word word.Unsigned = true
is_integer_word word.Char = true
is_integer_word word.Bool = true
is_integer_word _ = false

abbrev pub is_type_word : Keyword → Bool
is_type_word word.Void = true
is_type_word word.Struct = true
is_type_word word.Enum = true
is_type_word k = is_integer_word k

abbrev pub begins_specifier : Terminal → Bool
begins_specifier (terminal_is.Keyword k) = is_specifier_word k
begins_specifier _ = false

abbrev pub begins_integer : Terminal → Bool
begins_integer (terminal_is.Keyword k) = is_integer_word k
begins_integer _ = false

abbrev pub begins_words : Terminal → Bool
begins_words (terminal_is.Keyword k) = is_type_word k
begins_words (terminal_is.TypeName n) = true
begins_words _ = false

-- the token begins a type
unfoldable pub begins_type : Terminal → Bool
begins_type t = begins_specifier t || begins_words t

abbrev pub is_star : Terminal → Bool
is_star (terminal_is.Punctuator mark.Star) = true
is_star _ = false

-- the token goes on with a type: a specifier, a keyword of an integer type or a star
unfoldable pub continues_type : Terminal → Bool
continues_type t = begins_specifier t || (begins_integer t || is_star t)

-- no longer type stands in front of these tokens
abbrev pub EndsType : List Lexeme → Type 0
EndsType ts = continues_type (front ts) ≡ false

abbrev pub BeginsType : List Lexeme → Type 0
BeginsType ts = begins_type (front ts) ≡ true
