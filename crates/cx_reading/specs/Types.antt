-- Types without a body, and the words beside them (C11 6.7.1 to 6.7.3, 6.7.6.1 and 6.7.7).
use Rattle.std.specs.Prelude.{◌≡◌, ℕ, ◌+◌, ◌≤◌, ◌==◌, ◌&&◌, Bool, List, [], ◌∷◌, ◌++◌, map, filter, length, if◌then◌else◌, Option, Some, None}
use Rattle.std.specs.List.{list_all}
use Rattle.cx_tree.specs.declared.types.IntType.{IntType}
use Rattle.cx_tree.specs.declared.types.IntType.TheVariants as int_type
use Rattle.cx_syntax_tree.specs.declared.terminals.Keyword.{Keyword}
use Rattle.cx_syntax_tree.specs.declared.terminals.Keyword.TheVariants as word
use Rattle.cx_syntax_tree.specs.declared.terminals.Punctuator.TheVariants as mark
use Rattle.cx_syntax_tree.specs.declared.terminals.Terminal.TheVariants as terminal_is
use Rattle.cx_syntax_tree.specs.declared.terminals.Lexeme.{Lexeme}
use Rattle.cx_syntax_tree.specs.declared.expressions.Specifier.{Specifier}
use Rattle.cx_syntax_tree.specs.declared.expressions.Specifier.TheVariants as specifier
use Rattle.cx_syntax_tree.specs.declared.expressions.SpecifierAt.{SpecifierAt}
use Rattle.cx_syntax_tree.specs.declared.expressions.KeywordAt.{KeywordAt}
use Rattle.cx_syntax_tree.specs.declared.expressions.NameAt.{NameAt}
use Rattle.cx_syntax_tree.specs.declared.expressions.BareWords.{BareWords}
use Rattle.cx_syntax_tree.specs.declared.expressions.BareWords.TheVariants as words
use Rattle.cx_syntax_tree.specs.declared.expressions.TreeStar.{TreeStar}
use Rattle.cx_syntax_tree.specs.declared.expressions.TreeStars.{TreeStars}
use Rattle.cx_syntax_tree.specs.declared.expressions.TreeType.{TreeType}
use Rattle.cx_terminals.specs.Terminals.{Is, IsWord, IsName, IsTag}
use Rattle.cx_reading.specs.Rules.{Many}

-- ---- the integer types (C11 6.7.2p2)

abbrev pub keyword_number : Keyword → ℕ
keyword_number word.Short = 1
keyword_number word.Int = 2
keyword_number word.Long = 3
keyword_number word.Signed = 4
keyword_number word.Unsigned = 5
keyword_number word.Char = 6
keyword_number word.Bool = 7
keyword_number _ = 0

abbrev pub same_keyword : Keyword → Keyword → Bool
same_keyword a b = keyword_number a == keyword_number b

-- how often a keyword stands among others
unfoldable pub occurrences : Keyword → List Keyword → ℕ
occurrences k ks = length (filter (same_keyword k) ks)

-- the keywords are those of the row, in any order
unfoldable pub is_rearranged : List Keyword → List Keyword → Bool
is_rearranged row ks =
    length row == length ks && list_all (λ k. occurrences k row == occurrences k ks) ks

-- C11 6.7.2p2: the sets of keywords that are in any order
abbrev pub rows : List (List Keyword × IntType)
rows =
    (word.Short ∷ [], int_type.Short) ∷ (word.Signed ∷ word.Short ∷ [], int_type.Short)
    ∷ (word.Short ∷ word.Int ∷ [], int_type.Short)
    ∷ (word.Signed ∷ word.Short ∷ word.Int ∷ [], int_type.Short)
    ∷ (word.Unsigned ∷ word.Short ∷ [], int_type.UnsignedShort)
    ∷ (word.Unsigned ∷ word.Short ∷ word.Int ∷ [], int_type.UnsignedShort)
    ∷ (word.Int ∷ [], int_type.Int) ∷ (word.Signed ∷ [], int_type.Int)
    ∷ (word.Signed ∷ word.Int ∷ [], int_type.Int)
    ∷ (word.Unsigned ∷ [], int_type.UnsignedInt)
    ∷ (word.Unsigned ∷ word.Int ∷ [], int_type.UnsignedInt)
    ∷ (word.Long ∷ [], int_type.Long) ∷ (word.Signed ∷ word.Long ∷ [], int_type.Long)
    ∷ (word.Long ∷ word.Int ∷ [], int_type.Long)
    ∷ (word.Signed ∷ word.Long ∷ word.Int ∷ [], int_type.Long)
    ∷ (word.Unsigned ∷ word.Long ∷ [], int_type.UnsignedLong)
    ∷ (word.Unsigned ∷ word.Long ∷ word.Int ∷ [], int_type.UnsignedLong)
    ∷ (word.Long ∷ word.Long ∷ [], int_type.LongLong)
    ∷ (word.Signed ∷ word.Long ∷ word.Long ∷ [], int_type.LongLong)
    ∷ (word.Long ∷ word.Long ∷ word.Int ∷ [], int_type.LongLong)
    ∷ (word.Signed ∷ word.Long ∷ word.Long ∷ word.Int ∷ [], int_type.LongLong)
    ∷ (word.Unsigned ∷ word.Long ∷ word.Long ∷ [], int_type.UnsignedLongLong)
    ∷ (word.Unsigned ∷ word.Long ∷ word.Long ∷ word.Int ∷ [], int_type.UnsignedLongLong) ∷ []

unfoldable pub type_of_row : List Keyword → List (List Keyword × IntType) → Option IntType
type_of_row ks [] = None
type_of_row ks (row ∷ more) = if is_rearranged row.0 ks then Some row.1 else type_of_row ks more

-- the integer type of keywords: those with char are read in this order alone
abbrev pub integer_type : List Keyword → Option IntType
integer_type (word.Bool ∷ []) = Some int_type.Bool
integer_type (word.Char ∷ []) = Some int_type.Char
integer_type (word.Signed ∷ word.Char ∷ []) = Some int_type.SignedChar
integer_type (word.Unsigned ∷ word.Char ∷ []) = Some int_type.UnsignedChar
integer_type ks = type_of_row ks rows

-- ---- words

-- C11 6.7.1 and 6.7.3
abbrev pub specifier_of : Keyword → Option Specifier
specifier_of word.Typedef = Some specifier.Typedef
specifier_of word.Static = Some specifier.Static
specifier_of word.Extern = Some specifier.Extern
specifier_of word.Const = Some specifier.Const
specifier_of _ = None

pub data IsSpecifier : List Lexeme → SpecifierAt → List Lexeme → Type 0 where
  a_specifier : {p : Lexeme} {rest : List Lexeme} {k : Keyword} {s : Specifier} {t : SpecifierAt}
      → IsWord k p → specifier_of k ≡ Some s → t ≡ record { specifier = s; at = p.at }
      → IsSpecifier (p ∷ rest) t rest

abbrev pub is_storage : SpecifierAt → ℕ
is_storage t = elim t.specifier [ specifier.Const ↦ 0 | _ ↦ 1 ]

-- how many storage-class specifiers there are
unfoldable pub storage_count : List SpecifierAt → ℕ
storage_count [] = 0
storage_count (t ∷ ts) = is_storage t + storage_count ts

pub data IsKeyword : List Lexeme → KeywordAt → List Lexeme → Type 0 where
  a_keyword : {p : Lexeme} {rest : List Lexeme} {k : Keyword} {t : KeywordAt} → IsWord k p
      → t ≡ record { keyword = k; at = p.at } → IsKeyword (p ∷ rest) t rest

-- a name with its place
abbrev pub named : ℕ → Lexeme → NameAt
named n p = record { name = n; at = p.at }

-- a tag or a member, which may be spelt as a type name (C11 6.2.3)
pub data IsTagName : List Lexeme → NameAt → List Lexeme → Type 0 where
  a_tag : {p : Lexeme} {rest : List Lexeme} {n : ℕ} {t : NameAt} → IsTag n p → t ≡ named n p
      → IsTagName (p ∷ rest) t rest

-- an identifier that is no type name
pub data IsPlainName : List Lexeme → NameAt → List Lexeme → Type 0 where
  a_name : {p : Lexeme} {rest : List Lexeme} {n : ℕ} {t : NameAt} → IsName n p → t ≡ named n p
      → IsPlainName (p ∷ rest) t rest

-- Words without a body (C11 6.7.2)
pub data IsBareWords : List Lexeme → BareWords → List Lexeme → Type 0 where
  void : {p : Lexeme} {rest : List Lexeme} {t : BareWords} → IsWord word.Void p
      → t ≡ words.Void p.at → IsBareWords (p ∷ rest) t rest
  integer : {ts rest : List Lexeme} {ks : List KeywordAt} {i : IntType} {t : BareWords}
      → Many IsKeyword ts ks rest → integer_type (map (λ k. k.keyword) ks) ≡ Some i
      → t ≡ words.Integer ks i → IsBareWords ts t rest
  struct_tag : {p : Lexeme} {ts rest : List Lexeme} {tag : NameAt} {t : BareWords}
      → IsWord word.Struct p → IsTagName ts tag rest → t ≡ words.Struct p.at tag
      → IsBareWords (p ∷ ts) t rest
  enum_tag : {p : Lexeme} {ts rest : List Lexeme} {tag : NameAt} {t : BareWords}
      → IsWord word.Enum p → IsTagName ts tag rest → t ≡ words.Enum p.at tag
      → IsBareWords (p ∷ ts) t rest
  type_name : {p : Lexeme} {rest : List Lexeme} {n : ℕ} {t : BareWords}
      → p.terminal ≡ terminal_is.TypeName n → t ≡ words.TypeName (named n p)
      → IsBareWords (p ∷ rest) t rest

-- the place of a const
pub data IsConst : List Lexeme → ℕ → List Lexeme → Type 0 where
  a_const : {p : Lexeme} {rest : List Lexeme} {at : ℕ} → IsWord word.Const p → at ≡ p.at
      → IsConst (p ∷ rest) at rest

pub data IsStar : List Lexeme → TreeStar → List Lexeme → Type 0 where
  a_star : {p : Lexeme} {ts rest : List Lexeme} {constants : List ℕ} {t : TreeStar}
      → Is mark.Star p → Many IsConst ts constants rest
      → t ≡ record { at = p.at; constants = constants } → IsStar (p ∷ ts) t rest

-- Stars (C11 6.7.6.1): {"*" {"const"}}
pub data IsStars : List Lexeme → TreeStars → List Lexeme → Type 0 where
  some_stars : {ts rest : List Lexeme} {stars : List TreeStar} {t : TreeStars}
      → Many IsStar ts stars rest → t ≡ record { stars = stars } → IsStars ts t rest

-- Type (C11 6.7.7): Spec Stars, without a body
pub data IsType : List Lexeme → TreeType → List Lexeme → Type 0 where
  a_type : {ts us vs ws rest : List Lexeme} {before behind : List SpecifierAt} {w : BareWords}
      {stars : TreeStars} {t : TreeType} → Many IsSpecifier ts before us → IsBareWords us w vs
      → Many IsSpecifier vs behind ws → storage_count (before ++ behind) ≤ 1
      → IsStars ws stars rest
      → t ≡ record { before = before; words = w; behind = behind; stars = stars }
      → IsType ts t rest
