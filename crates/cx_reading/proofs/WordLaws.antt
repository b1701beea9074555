-- The keywords of a type (C11 6.7.2): those that name an integer type, and what stands at the
-- front of a type.
use Rattle.std.proofs.Common.{◌≡◌, refl, sym, ◌∙◌, ℕ, suc, ◌+◌, ◌<◌, ◌≤◌, ◌-◌, ◌==◌, ◌&&◌, ◌||◌, Bool, true, false, if◌then◌else◌, List, [], ◌∷◌, ◌++◌, filter, length, Some, None, arith, nat_le, inl, inr, ◌⊎◌}
use Rattle.std.proofs.lemmas.Bool.Decides.{nat_tests}
use Rattle.std.specs.List.{list_all}
use Rattle.cx_tree.specs.declared.types.IntType.{IntType}
use Rattle.cx_syntax_tree.specs.declared.terminals.Keyword.{Keyword}
use Rattle.cx_syntax_tree.specs.declared.terminals.Keyword.TheVariants as word
use Rattle.cx_syntax_tree.specs.declared.terminals.Punctuator.TheVariants as mark
use Rattle.cx_syntax_tree.specs.declared.terminals.Terminal.{Terminal}
use Rattle.cx_syntax_tree.specs.declared.terminals.Terminal.TheVariants as terminal_is
use Rattle.cx_syntax_tree.specs.declared.terminals.Lexeme.{Lexeme}
use Rattle.cx_syntax_tree.specs.declared.expressions.Specifier.{Specifier}
use Rattle.cx_syntax_tree.specs.declared.expressions.SpecifierAt.{SpecifierAt}
use Rattle.cx_reading.specs.Types.{keyword_number, same_keyword, occurrences, is_rearranged, rows, type_of_row, integer_type, specifier_of, storage_count}
use Rattle.cx_reading.specs.TypeFronts.{is_specifier_word, is_integer_word, is_type_word, begins_specifier, begins_integer, begins_words, is_star}
use Rattle.cx_reading.specs.Parsing.{is_mark}
use Rattle.cx_reading.specs.Shapes.TypeParsers.{specifier_made, specifier_for, specifier_at, keyword_for, keyword_at, const_for, const_at, one_storage}

-- ---- tests

pub and_left : (a b : Bool) → (a && b) ≡ true → a ≡ true
and_left true b e = refl
and_left false b e = absurd cc

pub and_right : (a b : Bool) → (a && b) ≡ true → b ≡ true
and_right true b e = e
and_right false b e = absurd cc

pub or_left : (a b : Bool) → (a || b) ≡ false → a ≡ false
or_left true b e = absurd cc
or_left false b e = refl

pub or_right : (a b : Bool) → (a || b) ≡ false → b ≡ false
or_right true b e = absurd cc
or_right false b e = e

pub or_of_left : (a b : Bool) → a ≡ true → (a || b) ≡ true
or_of_left true b e = refl
or_of_left false b e = absurd cc

pub or_of_right : (a b : Bool) → b ≡ true → (a || b) ≡ true
or_of_right true b e = refl
or_of_right false b e = e

-- ---- the table

abbrev pub IntegerWords : List Keyword → Type 0
IntegerWords [] = Unit {0}
IntegerWords (k ∷ ks) = (is_integer_word k ≡ true) × IntegerWords ks

number_word : (k : Keyword) → 0 < keyword_number k → is_integer_word k ≡ true
number_word word.Short h = refl
number_word word.Int h = refl
number_word word.Long h = refl
number_word word.Signed h = refl
number_word word.Unsigned h = refl
number_word word.Char h = refl
number_word word.Bool h = refl
number_word _ h = absurd (omega (arith, h))

word_number : (k : Keyword) → is_integer_word k ≡ true → 0 < keyword_number k
word_number word.Short h = omega arith
word_number word.Int h = omega arith
word_number word.Long h = omega arith
word_number word.Signed h = omega arith
word_number word.Unsigned h = omega arith
word_number word.Char h = omega arith
word_number word.Bool h = omega arith
word_number _ h = absurd cc

equal_numbers : (m n : ℕ) → (m == n) ≡ true → m ≡ n
equal_numbers m n e = grind (arith, nat_tests)

same_number : (n : ℕ) → (n == n) ≡ true
same_number n = grind (arith, nat_tests)

same_word : (k r : Keyword) → same_keyword k r ≡ true → is_integer_word r ≡ true
    → is_integer_word k ≡ true
same_word k r e h =
    let same = equal_numbers (keyword_number k) (keyword_number r) e in
    let some = word_number r h in number_word k (omega arith)

counted : Bool → ℕ → ℕ
counted true n = suc n
counted false n = n

occurs : (k r : Keyword) (row : List Keyword)
    → occurrences k (r ∷ row) ≡ counted (same_keyword k r) (occurrences k row)
unfolding occurrences counted
occurs k r row =
    elim (same_keyword k r)
    as (λ b. length (if b then r ∷ filter (same_keyword k) row else filter (same_keyword k) row)
    ≡ counted b (length (filter (same_keyword k) row)))
    [ true ↦ omega arith | false ↦ refl ]

present_by : (k r : Keyword) (row : List Keyword) → list_all is_integer_word (r ∷ row) ≡ true
    → (0 < occurrences k row → is_integer_word k ≡ true) → 0 < occurrences k (r ∷ row)
    → is_integer_word k ≡ true
unfolding counted
present_by k r row all again here =
    elim (same_keyword k r)
    as (λ b. same_keyword k r ≡ b → occurrences k (r ∷ row) ≡ counted b (occurrences k row)
    → is_integer_word k ≡ true) [
      | true ↦ λ same e. same_word k r same (and_left (is_integer_word r) _ all)
      | false ↦ λ same e. again (omega (arith, here, e))
    ] refl (occurs k r row)

-- a keyword that stands somewhere in a row of keywords of integer types is one of them
present : (k : Keyword) (row : List Keyword) → list_all is_integer_word row ≡ true
    → 0 < occurrences k row → is_integer_word k ≡ true
unfolding occurrences
present k [] all here = absurd (omega (arith, here))
present k (r ∷ row) all here =
    present_by k r row all (present k row (and_right (is_integer_word r) _ all)) here

more_later : (j k : Keyword) (ks : List Keyword) → 0 < occurrences j ks
    → 0 < occurrences j (k ∷ ks)
unfolding counted
more_later j k ks later =
    elim (same_keyword j k)
    as (λ b. occurrences j (k ∷ ks) ≡ counted b (occurrences j ks) → 0 < occurrences j (k ∷ ks))
    [ true ↦ λ e. omega (arith, e) | false ↦ λ e. omega (arith, e, later) ] (occurs j k ks)

words_of_row : (row ks all : List Keyword) → list_all is_integer_word row ≡ true
    → list_all (λ k. occurrences k row == occurrences k all) ks ≡ true
    → ((k : Keyword) → 0 < occurrences k ks → 0 < occurrences k all) → IntegerWords ks
unfolding counted
words_of_row row [] all e h within = tt
words_of_row row (k ∷ ks) all e h within =
    let often = equal_numbers (occurrences k row) (occurrences k all) (and_left _ _ h) in
    let here : occurrences k (k ∷ ks) ≡ suc (occurrences k ks) =
    rw (occurs k k ks, same_number (keyword_number k)) refl in
    let some = within k (omega (arith, here)) in (
      present k row e (omega (arith, often, some)),
      words_of_row row ks all e (and_right (occurrences k row == occurrences k all) _ h)
          (λ j later. within j (more_later j k ks later)),
    )

words_of_table : (ks : List Keyword) (table : List (List Keyword × IntType)) (i : IntType)
    → list_all (λ r. list_all is_integer_word r.0) table ≡ true → type_of_row ks table ≡ Some i
    → IntegerWords ks
unfolding type_of_row is_rearranged
words_of_table ks [] i all e = absurd cc
words_of_table ks (row ∷ table) i all e =
    elim (is_rearranged row.0 ks)
    as (λ b. is_rearranged row.0 ks ≡ b
    → (if b then Some row.1 else type_of_row ks table) ≡ Some i → IntegerWords ks) [
      | true ↦ λ is h. words_of_row row.0 ks ks (and_left (list_all is_integer_word row.0) _ all)
          (and_right (length row.0 == length ks) _ is) (λ k here. here)
      | false ↦ λ is h. words_of_table ks table i
          (and_right (list_all is_integer_word row.0) _ all) h
    ] refl e

by_table : (ks : List Keyword) → (integer_type ks ≡ type_of_row ks rows) ⊎ IntegerWords ks
by_table [] = inl refl
by_table (word.Bool ∷ []) = inr (refl, tt)
by_table (word.Bool ∷ k ∷ ks) = inl refl
by_table (word.Char ∷ []) = inr (refl, tt)
by_table (word.Char ∷ k ∷ ks) = inl refl
by_table (word.Signed ∷ []) = inl refl
by_table (word.Signed ∷ word.Char ∷ []) = inr (refl, (refl, tt))
by_table (word.Signed ∷ word.Char ∷ k ∷ ks) = inl refl
by_table (word.Signed ∷ _ ∷ ks) = inl refl
by_table (word.Unsigned ∷ []) = inl refl
by_table (word.Unsigned ∷ word.Char ∷ []) = inr (refl, (refl, tt))
by_table (word.Unsigned ∷ word.Char ∷ k ∷ ks) = inl refl
by_table (word.Unsigned ∷ _ ∷ ks) = inl refl
by_table (_ ∷ ks) = inl refl

-- keywords that name an integer type are all keywords of integer types
pub integer_keywords : (ks : List Keyword) (i : IntType) → integer_type ks ≡ Some i
    → IntegerWords ks
integer_keywords ks i e =
    elim (by_table ks) [
      | inl table ↦ words_of_table ks rows i refl (sym table ∙ e)
      | inr all ↦ all
    ]

pub no_integer : (i : IntType) → integer_type [] ≡ Some i → ⊥
unfolding type_of_row is_rearranged
no_integer i e = cc

-- ---- what one token is

specifier_word_none : (k : Keyword) (at : ℕ) → is_specifier_word k ≡ false
    → specifier_made (specifier_of k) at ≡ None
specifier_word_none word.Typedef at e = absurd cc
specifier_word_none word.Static at e = absurd cc
specifier_word_none word.Extern at e = absurd cc
specifier_word_none word.Const at e = absurd cc
specifier_word_none _ at e = refl

specifier_none : (t : Terminal) (at : ℕ) → begins_specifier t ≡ false → specifier_for t at ≡ None
specifier_none (terminal_is.Keyword k) at e = specifier_word_none k at e
specifier_none _ at e = refl

keyword_none : (t : Terminal) (at : ℕ) → begins_integer t ≡ false → keyword_for t at ≡ None
keyword_none (terminal_is.Keyword k) at e = rw e refl
keyword_none _ at e = refl

const_word_none : (k : Keyword) (at : ℕ) → is_specifier_word k ≡ false
    → const_for (terminal_is.Keyword k) at ≡ None
const_word_none word.Const at e = absurd cc
const_word_none _ at e = refl

const_none : (t : Terminal) (at : ℕ) → begins_specifier t ≡ false → const_for t at ≡ None
const_none (terminal_is.Keyword k) at e = const_word_none k at e
const_none _ at e = refl

pub specifier_at_none : (p : Lexeme) → begins_specifier p.terminal ≡ false → specifier_at p ≡ None
unfolding specifier_at
specifier_at_none p e = specifier_none p.terminal p.at e

pub keyword_at_none : (p : Lexeme) → begins_integer p.terminal ≡ false → keyword_at p ≡ None
unfolding keyword_at
keyword_at_none p e = keyword_none p.terminal p.at e

pub const_at_none : (p : Lexeme) → begins_specifier p.terminal ≡ false → const_at p ≡ None
unfolding const_at
const_at_none p e = const_none p.terminal p.at e

pub star_is : (t : Terminal) → is_mark mark.Star t ≡ is_star t
unfolding is_mark
star_is (terminal_is.Punctuator mark.Star) = refl
star_is (terminal_is.Punctuator _) = refl
star_is _ = refl

word_no_specifier : (k : Keyword) → is_type_word k ≡ true → is_specifier_word k ≡ false
word_no_specifier word.Typedef e = absurd cc
word_no_specifier word.Static e = absurd cc
word_no_specifier word.Extern e = absurd cc
word_no_specifier word.Const e = absurd cc
word_no_specifier _ e = refl

pub words_no_specifier : (t : Terminal) → begins_words t ≡ true → begins_specifier t ≡ false
words_no_specifier (terminal_is.Keyword k) e = word_no_specifier k e
words_no_specifier _ e = refl

specifier_no_integer_word : (k : Keyword) → is_specifier_word k ≡ true → is_integer_word k ≡ false
specifier_no_integer_word word.Typedef e = refl
specifier_no_integer_word word.Static e = refl
specifier_no_integer_word word.Extern e = refl
specifier_no_integer_word word.Const e = refl
specifier_no_integer_word _ e = absurd cc

pub specifier_no_integer : (t : Terminal) → begins_specifier t ≡ true → begins_integer t ≡ false
specifier_no_integer (terminal_is.Keyword k) e = specifier_no_integer_word k e
specifier_no_integer _ e = absurd cc

pub star_no_specifier : (t : Terminal) → t ≡ terminal_is.Punctuator mark.Star
    → begins_specifier t ≡ false
star_no_specifier t e = rw e refl

pub star_no_integer : (t : Terminal) → t ≡ terminal_is.Punctuator mark.Star
    → begins_integer t ≡ false
star_no_integer t e = rw e refl

pub integer_is_type_word : (k : Keyword) → is_integer_word k ≡ true → is_type_word k ≡ true
integer_is_type_word word.Void e = refl
integer_is_type_word word.Struct e = refl
integer_is_type_word word.Enum e = refl
integer_is_type_word _ e = e

specifier_is_word : (k : Keyword) (s : Specifier) → specifier_of k ≡ Some s
    → is_specifier_word k ≡ true
specifier_is_word word.Typedef s e = refl
specifier_is_word word.Static s e = refl
specifier_is_word word.Extern s e = refl
specifier_is_word word.Const s e = refl
specifier_is_word _ s e = absurd cc

pub specifier_begins : (t : Terminal) (k : Keyword) (s : Specifier) → t ≡ terminal_is.Keyword k
    → specifier_of k ≡ Some s → begins_specifier t ≡ true
specifier_begins t k s e f = rw e (specifier_is_word k s f)

-- ---- how many storage-class specifiers there are

storage_append : (a b : List SpecifierAt)
    → storage_count (a ++ b) ≡ storage_count a + storage_count b
unfolding storage_count
storage_append [] b = omega arith
storage_append (t ∷ a) b = omega (arith, storage_append a b)

one_of_counts : (m n : ℕ) → m + n ≤ 1 → (nat_le m 1 && nat_le n (1 - m)) ≡ true
one_of_counts m n h = grind (arith, nat_tests)

counts_of_one : (m n : ℕ) → (nat_le m 1 && nat_le n (1 - m)) ≡ true → m + n ≤ 1
counts_of_one m n e = grind (arith, nat_tests)

pub one_storage_of : (a b : List SpecifierAt) → storage_count (a ++ b) ≤ 1
    → one_storage a b ≡ true
unfolding one_storage
one_storage_of a b h =
    one_of_counts (storage_count a) (storage_count b) (omega (arith, h, storage_append a b))

pub storage_of_one : (a b : List SpecifierAt) → one_storage a b ≡ true
    → storage_count (a ++ b) ≤ 1
unfolding one_storage
storage_of_one a b e =
    omega (arith, counts_of_one (storage_count a) (storage_count b) e, storage_append a b)
