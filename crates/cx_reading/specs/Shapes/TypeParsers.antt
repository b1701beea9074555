-- The readers of types without a body, as they are computed.
use Rattle.std.specs.Prelude.{ℕ, ◌-◌, ◌&&◌, nat_le, Bool, if◌then◌else◌, List, map, Option, Some, None}
use Rattle.cx_tree.specs.declared.types.IntType.{IntType}
use Rattle.cx_syntax_tree.specs.declared.terminals.Keyword.{Keyword}
use Rattle.cx_syntax_tree.specs.declared.terminals.Keyword.TheVariants as word
use Rattle.cx_syntax_tree.specs.declared.terminals.Punctuator.TheVariants as mark
use Rattle.cx_syntax_tree.specs.declared.terminals.Terminal.{Terminal}
use Rattle.cx_syntax_tree.specs.declared.terminals.Terminal.TheVariants as terminal_is
use Rattle.cx_syntax_tree.specs.declared.terminals.Lexeme.{Lexeme}
use Rattle.cx_syntax_tree.specs.declared.expressions.Specifier.{Specifier}
use Rattle.cx_syntax_tree.specs.declared.expressions.SpecifierAt.{SpecifierAt}
use Rattle.cx_syntax_tree.specs.declared.expressions.KeywordAt.{KeywordAt}
use Rattle.cx_syntax_tree.specs.declared.expressions.BareWords.{BareWords}
use Rattle.cx_syntax_tree.specs.declared.expressions.BareWords.TheVariants as words
use Rattle.cx_syntax_tree.specs.declared.expressions.TreeStar.{TreeStar}
use Rattle.cx_syntax_tree.specs.declared.expressions.TreeStars.{TreeStars}
use Rattle.cx_syntax_tree.specs.declared.expressions.TreeType.{TreeType}
use Rattle.cx_reading.specs.Types.{integer_type, specifier_of, storage_count, named}
use Rattle.cx_reading.specs.TypeFronts.{is_integer_word}
use Rattle.cx_reading.specs.Parsing.{Parser, ◌>>=◌, pure, refuse, front, take, eat, tag_name, one_of, many}

-- ---- what one token is

abbrev pub specifier_made : Option Specifier → ℕ → Option SpecifierAt
specifier_made (Some s) at = Some (record { specifier = s; at = at })
specifier_made None at = None

abbrev pub specifier_for : Terminal → ℕ → Option SpecifierAt
specifier_for (terminal_is.Keyword k) at = specifier_made (specifier_of k) at
specifier_for _ at = None

unfoldable pub specifier_at : Lexeme → Option SpecifierAt
specifier_at p = specifier_for p.terminal p.at

abbrev pub keyword_for : Terminal → ℕ → Option KeywordAt
keyword_for (terminal_is.Keyword k) at =
    if is_integer_word k then Some (record { keyword = k; at = at }) else None
keyword_for _ at = None

unfoldable pub keyword_at : Lexeme → Option KeywordAt
keyword_at p = keyword_for p.terminal p.at

abbrev pub const_for : Terminal → ℕ → Option ℕ
const_for (terminal_is.Keyword word.Const) at = Some at
const_for _ at = None

unfoldable pub const_at : Lexeme → Option ℕ
const_at p = const_for p.terminal p.at

-- ---- rows

abbrev pub specifier : Parser (Option SpecifierAt)
specifier = one_of specifier_at

abbrev pub integer_word : Parser (Option KeywordAt)
integer_word = one_of keyword_at

abbrev pub constant : Parser (Option ℕ)
constant = one_of const_at

unfoldable pub specifiers : Parser (List SpecifierAt)
specifiers = many specifier

abbrev pub star_at : Option ℕ → Parser (Option TreeStar)
star_at None = pure None
star_at (Some at) = do
  constants ← many constant
  pure (Some (record { at = at; constants = constants }))

unfoldable pub star : Parser (Option TreeStar)
star = eat mark.Star >>= star_at

unfoldable pub stars : Parser TreeStars
stars = do
  found ← many star
  pure (record { stars = found })

-- ---- types

abbrev pub integer_by : List KeywordAt → Option IntType → Parser BareWords
integer_by ks (Some i) = pure (words.Integer ks i)
integer_by ks None = refuse

unfoldable pub integer_words : Parser BareWords
integer_words = do
  ks ← many integer_word
  integer_by ks (integer_type (map (λ k. k.keyword) ks))

abbrev pub words_by : Keyword → Parser BareWords
words_by word.Void = take >>= (λ p. pure (words.Void p.at))
words_by word.Struct = take >>= (λ p. tag_name >>= (λ tag. pure (words.Struct p.at tag)))
words_by word.Enum = take >>= (λ p. tag_name >>= (λ tag. pure (words.Enum p.at tag)))
words_by _ = integer_words

abbrev pub words_for : Terminal → Parser BareWords
words_for (terminal_is.Keyword k) = words_by k
words_for (terminal_is.TypeName n) = take >>= (λ p. pure (words.TypeName (named n p)))
words_for _ = refuse

unfoldable pub bare_words : Parser BareWords
bare_words = λ ts. words_for (front ts) ts

-- at most one storage-class specifier
unfoldable pub one_storage : List SpecifierAt → List SpecifierAt → Bool
one_storage before behind =
    nat_le (storage_count before) 1 && nat_le (storage_count behind) (1 - storage_count before)

unfoldable pub type_name : Parser TreeType
type_name = do
  before ← specifiers
  w ← bare_words
  behind ← specifiers
  s ← stars
  if one_storage before behind
      then pure (record { before = before; words = w; behind = behind; stars = s })
      else refuse
