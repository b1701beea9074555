-- Types without a body: their readers read what the rules do (C11 6.7.2, 6.7.6.1 and 6.7.7).
use Rattle.std.proofs.Common.{◌≡◌, refl, ap, sym, subst, ◌∙◌, ℕ, ◌<◌, ◌≤◌, ◌||◌, Bool, true, false, if◌then◌else◌, List, ◌∷◌, map, length, Option, Some, None, arith}
use Rattle.cx_tree.specs.declared.types.IntType.{IntType}
use Rattle.cx_syntax_tree.specs.declared.terminals.Keyword.{Keyword}
use Rattle.cx_syntax_tree.specs.declared.terminals.Keyword.TheVariants as word
use Rattle.cx_syntax_tree.specs.declared.terminals.Punctuator.TheVariants as mark
use Rattle.cx_syntax_tree.specs.declared.terminals.Terminal.{Terminal}
use Rattle.cx_syntax_tree.specs.declared.terminals.Terminal.TheVariants as terminal_is
use Rattle.cx_syntax_tree.specs.declared.terminals.Lexeme.{Lexeme}
use Rattle.cx_syntax_tree.specs.declared.expressions.SpecifierAt.{SpecifierAt}
use Rattle.cx_syntax_tree.specs.declared.expressions.KeywordAt.{KeywordAt}
use Rattle.cx_syntax_tree.specs.declared.expressions.NameAt.{NameAt}
use Rattle.cx_syntax_tree.specs.declared.expressions.BareWords.{BareWords}
use Rattle.cx_syntax_tree.specs.declared.expressions.BareWords.TheVariants as words
use Rattle.cx_syntax_tree.specs.declared.expressions.TreeStar.{TreeStar}
use Rattle.cx_syntax_tree.specs.declared.expressions.TreeStars.{TreeStars}
use Rattle.cx_syntax_tree.specs.declared.expressions.TreeType.{TreeType}
use Rattle.cx_reading.specs.Rules.{Relation, Many, no_more, one_more}
use Rattle.cx_reading.specs.Types.{integer_type, specifier_of, named, IsSpecifier, a_specifier, IsKeyword, a_keyword, IsTagName, a_tag, IsBareWords, void, integer, struct_tag, enum_tag, type_name as a_type_name, IsConst, a_const, IsStar, a_star, IsStars, some_stars, IsType, a_type}
use Rattle.cx_reading.specs.TypeFronts.{is_integer_word, begins_specifier, begins_integer, begins_words, begins_type, is_star, continues_type, BeginsType, EndsType}
use Rattle.cx_reading.specs.Parsing.{Parser, and_then, front, eat, take, tag_name, one_of, many, pure, refuse}
use Rattle.cx_reading.specs.Agreement.{Law, Items}
use Rattle.cx_reading.specs.Shapes.TypeParsers.{specifier_made, specifier_for, specifier_at, keyword_for, keyword_at, const_for, const_at, specifier, integer_word, constant, specifiers, star_at, star, stars, integer_by, integer_words, words_by, words_for, bare_words, one_storage, type_name}
use Rattle.cx_reading.proofs.TokenLaws.{some_same, bound, moved, Begun, take_some, eat_some, eat_none, some_eat, none_eat, tag_some, some_tag, one_some, one_none, some_one, none_one}
use Rattle.cx_reading.proofs.RowLaws.{many_sound, many_complete, many_good, many_no_longer}
use Rattle.cx_reading.proofs.WordLaws.{IntegerWords, or_left, or_right, or_of_left, or_of_right, integer_keywords, no_integer, specifier_at_none, keyword_at_none, const_at_none, star_is, words_no_specifier, specifier_no_integer, star_no_specifier, star_no_integer, integer_is_type_word, specifier_begins, one_storage_of, storage_of_one}

-- ---- rows of single tokens

abbrev TokenIs : {A : Type 0} → (Lexeme → Option A) → Relation A
TokenIs f ts x rest = Begun (λ p. f p ≡ Some x) ts rest

abbrev Any : List Lexeme → Type 0
Any ts = Unit {0}

token_items : {A : Type 0} (f : Lexeme → Option A) → Items Any (one_of f) (TokenIs f)
token_items f = record {
  sound = λ ts x rest e. one_some f ts x rest e;
  complete = λ ts x rest r g. rw r.whole (some_one f r.token rest x r.holds);
  shorter = λ ts x rest r. rw r.whole (omega arith);
  begins = λ ts x rest r. tt;
  absent = λ ts rest e. one_none f ts rest e;
}

pub many_map : {A : Type 0} {R S : Relation A}
    → ((ts : List Lexeme) (x : A) (rest : List Lexeme) → R ts x rest → S ts x rest)
    → {ts : List Lexeme} {xs : List A} {rest : List Lexeme} → Many R ts xs rest → Many S ts xs rest
many_map f no_more = no_more
many_map f (one_more {ts} {mid} {rest} {x} i m) = one_more (f ts x mid i) (many_map f m)

-- ---- specifiers

specifier_by : (p : Lexeme) (t : Terminal) (x : SpecifierAt) (rest : List Lexeme)
    → p.terminal ≡ t → specifier_for t p.at ≡ Some x → IsSpecifier (p ∷ rest) x rest
specifier_by p (terminal_is.Keyword k) x rest e h =
    elim (specifier_of k)
    as (λ o. specifier_of k ≡ o → specifier_made o p.at ≡ Some x → IsSpecifier (p ∷ rest) x rest) [
      | None ↦ λ is f. absurd cc
      | Some s ↦ λ is f. a_specifier {k = k} {s = s} e is cc
    ] refl h
specifier_by p _ x rest e h = absurd cc

specifier_given : (ts : List Lexeme) (x : SpecifierAt) (rest : List Lexeme)
    → TokenIs specifier_at ts x rest → IsSpecifier ts x rest
unfolding specifier_at
specifier_given ts x rest r =
    subst (λ us. IsSpecifier us x rest) (sym r.whole)
    (specifier_by r.token r.token.terminal x rest refl r.holds)

front_at : (ts : List Lexeme) (p : Lexeme) (us : List Lexeme) → ts ≡ p ∷ us
    → front ts ≡ p.terminal
unfolding front
front_at ts p us e = rw e refl

specifier_taken : (ts : List Lexeme) (x : SpecifierAt) (rest : List Lexeme)
    → IsSpecifier ts x rest → TokenIs specifier_at ts x rest
unfolding specifier_at
specifier_taken _ x rest (a_specifier {p = p} is of e) =
    record { token = p; whole = refl; holds = rw (is, of, e) refl }

specifier_absent : (ts : List Lexeme) → begins_specifier (front ts) ≡ false
    → specifier ts ≡ Some (None, ts)
specifier_absent ts e =
    none_one specifier_at ts (λ p us f. specifier_at_none p
    (subst (λ t. begins_specifier t ≡ false) (front_at ts p us f) e))

pub specifiers_sound : (ts : List Lexeme) (xs : List SpecifierAt) (rest : List Lexeme)
    → specifiers ts ≡ Some (xs, rest) → Many IsSpecifier ts xs rest
unfolding specifiers
specifiers_sound ts xs rest e =
    many_map specifier_given (many_sound (token_items specifier_at) ts xs rest e)

pub specifiers_complete : (ts : List Lexeme) (xs : List SpecifierAt) (rest : List Lexeme)
    → Many IsSpecifier ts xs rest → begins_specifier (front rest) ≡ false
    → specifiers ts ≡ Some (xs, rest)
unfolding specifiers
specifiers_complete ts xs rest m e =
    many_complete (token_items specifier_at) ts xs rest (many_map specifier_taken m) tt
    (specifier_absent rest e)

pub specifiers_no_longer : {ts : List Lexeme} {xs : List SpecifierAt} {rest : List Lexeme}
    → Many IsSpecifier ts xs rest → length rest ≤ length ts
specifiers_no_longer m = many_no_longer (token_items specifier_at) (many_map specifier_taken m)

-- ---- stars

const_by : (p : Lexeme) (t : Terminal) (x : ℕ) (rest : List Lexeme) → p.terminal ≡ t
    → const_for t p.at ≡ Some x → IsConst (p ∷ rest) x rest
const_by p (terminal_is.Keyword word.Const) x rest e h = a_const e cc
const_by p _ x rest e h = absurd cc

const_given : (ts : List Lexeme) (x : ℕ) (rest : List Lexeme) → TokenIs const_at ts x rest
    → IsConst ts x rest
unfolding const_at
const_given ts x rest r =
    subst (λ us. IsConst us x rest) (sym r.whole)
    (const_by r.token r.token.terminal x rest refl r.holds)

const_taken : (ts : List Lexeme) (x : ℕ) (rest : List Lexeme) → IsConst ts x rest
    → TokenIs const_at ts x rest
unfolding const_at
const_taken _ x rest (a_const {p = p} is e) =
    record { token = p; whole = refl; holds = rw (is, e) refl }

const_absent : (ts : List Lexeme) → begins_specifier (front ts) ≡ false
    → constant ts ≡ Some (None, ts)
const_absent ts e =
    none_one const_at ts (λ p us f. const_at_none p
    (subst (λ t. begins_specifier t ≡ false) (front_at ts p us f) e))

abbrev NoSpecifier : List Lexeme → Type 0
NoSpecifier ts = begins_specifier (front ts) ≡ false

star_by : (ts mid : List Lexeme) (found : Option ℕ) (x : TreeStar) (rest : List Lexeme)
    → eat mark.Star ts ≡ Some (found, mid) → star_at found mid ≡ Some (Some x, rest)
    → IsStar ts x rest
star_by ts mid None x rest e h =
    let same = some_same {A = Option TreeStar} None (Some x) mid rest h in absurd cc
star_by ts mid (Some at) x rest e h =
    let f = eat_some mark.Star ts at mid e in
    let b = bound (many constant mid)
    (λ cs. λ us. Some (Some (record { at = at; constants = cs }), us)) (Some x) rest h in
    let same = some_same {A = Option TreeStar} (Some (record { at = at; constants = b.made }))
    (Some x) b.mid rest b.second in
    let cs = many_map const_given (many_sound (token_items const_at) mid b.made b.mid b.first) in
    let here : x ≡ record { at = f.token.at; constants = b.made } = cc (same.0, f.holds.1) in
    let row : Many IsConst mid b.made rest = subst (Many IsConst mid b.made) same.1 cs in
    subst (λ us. IsStar us x rest) (sym f.whole) (a_star f.holds.0 row here)

star_gone : (ts mid : List Lexeme) (found : Option ℕ) (rest : List Lexeme)
    → eat mark.Star ts ≡ Some (found, mid) → star_at found mid ≡ Some (None, rest) → rest ≡ ts
star_gone ts mid None rest e h =
    sym (some_same {A = Option TreeStar} None None mid rest h).1 ∙ eat_none mark.Star ts mid e
star_gone ts mid (Some at) rest e h =
    let b = bound (many constant mid)
    (λ cs. λ us. Some (Some (record { at = at; constants = cs }), us)) None rest h in
    let same = some_same {A = Option TreeStar} (Some (record { at = at; constants = b.made }))
    None b.mid rest b.second in
    absurd cc

star_sound : (ts : List Lexeme) (x : TreeStar) (rest : List Lexeme)
    → star ts ≡ Some (Some x, rest) → IsStar ts x rest
unfolding star
star_sound ts x rest e =
    let b = bound (eat mark.Star ts) star_at (Some x) rest e in
    star_by ts b.mid b.made x rest b.first b.second

star_complete : (ts : List Lexeme) (x : TreeStar) (rest : List Lexeme) → IsStar ts x rest
    → NoSpecifier rest → star ts ≡ Some (Some x, rest)
unfolding star
star_complete _ x rest (a_star {p = p} {ts = us} {constants = cs} is m e) g =
    let row : many constant us ≡ Some (cs, rest) = many_complete (token_items const_at) us cs rest
    (many_map const_taken m) tt (const_absent rest g) in
    rw (some_eat mark.Star p us is, row, e) refl

star_shorter : (ts : List Lexeme) (x : TreeStar) (rest : List Lexeme) → IsStar ts x rest
    → length rest < length ts
star_shorter _ x rest (a_star is m e) =
    let l = many_no_longer (token_items const_at) (many_map const_taken m) in omega arith

star_begins : (ts : List Lexeme) (x : TreeStar) (rest : List Lexeme) → IsStar ts x rest
    → front ts ≡ terminal_is.Punctuator mark.Star
unfolding front
star_begins _ x rest (a_star is m e) = is

star_absent : (ts rest : List Lexeme) → star ts ≡ Some (None, rest) → rest ≡ ts
unfolding star
star_absent ts rest e =
    let b = bound (eat mark.Star ts) star_at None rest e in
    star_gone ts b.mid b.made rest b.first b.second

star_items : Items NoSpecifier star IsStar
star_items = record {
  sound = star_sound;
  complete = star_complete;
  shorter = star_shorter;
  begins = λ ts x rest r. star_no_specifier (front ts) (star_begins ts x rest r);
  absent = star_absent;
}

no_star : (ts : List Lexeme) → is_star (front ts) ≡ false → star ts ≡ Some (None, ts)
unfolding star
no_star ts e = rw (none_eat mark.Star ts (star_is (front ts) ∙ e)) refl

pub stars_sound : (ts : List Lexeme) (x : TreeStars) (rest : List Lexeme)
    → stars ts ≡ Some (x, rest) → IsStars ts x rest
unfolding stars
stars_sound ts x rest e =
    let b = bound (many star ts) (λ found. pure (record { stars = found })) x rest e in
    let same = some_same (record { stars = b.made }) x b.mid rest b.second in
    moved IsStars (some_stars (many_sound star_items ts b.made b.mid b.first) refl) same.0 same.1

pub stars_complete : (ts : List Lexeme) (x : TreeStars) (rest : List Lexeme)
    → IsStars ts x rest → NoSpecifier rest → is_star (front rest) ≡ false
    → stars ts ≡ Some (x, rest)
unfolding stars
stars_complete ts x rest (some_stars {stars = found} m e) g s =
    rw (many_complete star_items ts found rest m g (no_star rest s), e) refl

-- ---- words

keyword_by : (p : Lexeme) (t : Terminal) (x : KeywordAt) (rest : List Lexeme)
    → p.terminal ≡ t → keyword_for t p.at ≡ Some x → IsKeyword (p ∷ rest) x rest
keyword_by p (terminal_is.Keyword k) x rest e h =
    elim (is_integer_word k)
    as (λ b. (if b then Some (record { keyword = k; at = p.at }) else None) ≡ Some x
    → IsKeyword (p ∷ rest) x rest)
    [ true ↦ λ f. a_keyword {k = k} e cc | false ↦ λ f. absurd cc ] h
keyword_by p _ x rest e h = absurd cc

keyword_given : (ts : List Lexeme) (x : KeywordAt) (rest : List Lexeme)
    → TokenIs keyword_at ts x rest → IsKeyword ts x rest
unfolding keyword_at
keyword_given ts x rest r =
    subst (λ us. IsKeyword us x rest) (sym r.whole)
    (keyword_by r.token r.token.terminal x rest refl r.holds)

keywords_taken : {ts : List Lexeme} {ks : List KeywordAt} {rest : List Lexeme}
    → Many IsKeyword ts ks rest → IntegerWords (map (λ k. k.keyword) ks)
    → Many (TokenIs keyword_at) ts ks rest
unfolding keyword_at
keywords_taken no_more all = no_more
keywords_taken (one_more (a_keyword {p = p} {k = k} is e) m) all =
    let known : is_integer_word k ≡ true = subst (λ x. is_integer_word x.keyword ≡ true) e all.0 in
    one_more (record { token = p; whole = refl; holds = rw (is, known, e) refl })
    (keywords_taken m all.1)

keyword_absent : (ts : List Lexeme) → begins_integer (front ts) ≡ false
    → integer_word ts ≡ Some (None, ts)
keyword_absent ts e =
    none_one keyword_at ts (λ p us f. keyword_at_none p
    (subst (λ t. begins_integer t ≡ false) (front_at ts p us f) e))

integer_sound_by : (ts mid : List Lexeme) (ks : List KeywordAt) (w : BareWords)
    (rest : List Lexeme) → Many IsKeyword ts ks mid
    → integer_by ks (integer_type (map (λ k. k.keyword) ks)) mid ≡ Some (w, rest)
    → IsBareWords ts w rest
integer_sound_by ts mid ks w rest m h =
    elim (integer_type (map (λ k. k.keyword) ks))
    as (λ o. integer_type (map (λ k. k.keyword) ks) ≡ o → integer_by ks o mid ≡ Some (w, rest)
    → IsBareWords ts w rest) [
      | None ↦ λ is f. absurd cc
      | Some i ↦ λ is f. let same = some_same (words.Integer ks i) w mid rest f in
          moved IsBareWords (integer m is refl) same.0 same.1
    ] refl h

integer_sound : (ts : List Lexeme) (w : BareWords) (rest : List Lexeme)
    → integer_words ts ≡ Some (w, rest) → IsBareWords ts w rest
unfolding integer_words
integer_sound ts w rest e =
    let b = bound (many integer_word ts)
    (λ ks. integer_by ks (integer_type (map (λ k. k.keyword) ks))) w rest e in
    integer_sound_by ts b.mid b.made w rest
    (many_map keyword_given (many_sound (token_items keyword_at) ts b.made b.mid b.first)) b.second

integer_complete : (ts : List Lexeme) (ks : List KeywordAt) (i : IntType) (rest : List Lexeme)
    → Many IsKeyword ts ks rest → integer_type (map (λ k. k.keyword) ks) ≡ Some i
    → begins_integer (front rest) ≡ false → integer_words ts ≡ Some (words.Integer ks i, rest)
unfolding integer_words
integer_complete ts ks i rest m is g =
    let all = integer_keywords (map (λ k. k.keyword) ks) i is in
    rw (
      many_complete (token_items keyword_at) ts ks rest (keywords_taken m all) tt
          (keyword_absent rest g),
      is,
    ) refl

words_by_integer : (k : Keyword) → is_integer_word k ≡ true → (ts : List Lexeme)
    → words_by k ts ≡ integer_words ts
words_by_integer word.Void e ts = absurd cc
words_by_integer word.Struct e ts = absurd cc
words_by_integer word.Enum e ts = absurd cc
words_by_integer _ e ts = refl

-- where the token that comes next is the word of the case
front_word : (ts : List Lexeme) (p : Lexeme) (us : List Lexeme) (t : Terminal) → ts ≡ p ∷ us
    → front ts ≡ t → p.terminal ≡ t
front_word ts p us t e f = sym (front_at ts p us e) ∙ f

void_sound : (ts : List Lexeme) (w : BareWords) (rest : List Lexeme)
    → front ts ≡ terminal_is.Keyword word.Void → words_by word.Void ts ≡ Some (w, rest)
    → IsBareWords ts w rest
void_sound ts w rest f e =
    let b = bound (take ts) (λ p. pure (words.Void p.at)) w rest e in
    let whole = take_some ts b.made b.mid b.first in
    let same = some_same (words.Void b.made.at) w b.mid rest b.second in
    subst (λ us. IsBareWords us w rest) (sym whole)
    (moved IsBareWords (void (front_word ts b.made b.mid _ whole f) refl) same.0 same.1)

struct_sound : (ts : List Lexeme) (w : BareWords) (rest : List Lexeme)
    → front ts ≡ terminal_is.Keyword word.Struct → words_by word.Struct ts ≡ Some (w, rest)
    → IsBareWords ts w rest
struct_sound ts w rest f e =
    let b = bound (take ts) (λ p. λ us. and_then (tag_name us) (λ tag. pure (words.Struct p.at tag)))
    w rest e in
    let whole = take_some ts b.made b.mid b.first in
    let c = bound (tag_name b.mid) (λ tag. pure (words.Struct b.made.at tag)) w rest b.second in
    let same = some_same (words.Struct b.made.at c.made) w c.mid rest c.second in
    subst (λ us. IsBareWords us w rest) (sym whole)
    (moved IsBareWords (struct_tag (front_word ts b.made b.mid _ whole f)
    (tag_some b.mid c.made c.mid c.first) refl) same.0 same.1)

enum_sound : (ts : List Lexeme) (w : BareWords) (rest : List Lexeme)
    → front ts ≡ terminal_is.Keyword word.Enum → words_by word.Enum ts ≡ Some (w, rest)
    → IsBareWords ts w rest
enum_sound ts w rest f e =
    let b = bound (take ts) (λ p. λ us. and_then (tag_name us) (λ tag. pure (words.Enum p.at tag)))
    w rest e in
    let whole = take_some ts b.made b.mid b.first in
    let c = bound (tag_name b.mid) (λ tag. pure (words.Enum b.made.at tag)) w rest b.second in
    let same = some_same (words.Enum b.made.at c.made) w c.mid rest c.second in
    subst (λ us. IsBareWords us w rest) (sym whole)
    (moved IsBareWords (enum_tag (front_word ts b.made b.mid _ whole f)
    (tag_some b.mid c.made c.mid c.first) refl) same.0 same.1)

named_sound : (n : ℕ) (ts : List Lexeme) (w : BareWords) (rest : List Lexeme)
    → front ts ≡ terminal_is.TypeName n → words_for (terminal_is.TypeName n) ts ≡ Some (w, rest)
    → IsBareWords ts w rest
named_sound n ts w rest f e =
    let b = bound (take ts) (λ p. pure (words.TypeName (named n p))) w rest e in
    let whole = take_some ts b.made b.mid b.first in
    let same = some_same (words.TypeName (named n b.made)) w b.mid rest b.second in
    subst (λ us. IsBareWords us w rest) (sym whole)
    (moved IsBareWords (a_type_name (front_word ts b.made b.mid _ whole f) refl) same.0 same.1)

words_sound : (t : Terminal) (ts : List Lexeme) (w : BareWords) (rest : List Lexeme)
    → front ts ≡ t → words_for t ts ≡ Some (w, rest) → IsBareWords ts w rest
words_sound (terminal_is.Keyword word.Void) ts w rest f e = void_sound ts w rest f e
words_sound (terminal_is.Keyword word.Struct) ts w rest f e = struct_sound ts w rest f e
words_sound (terminal_is.Keyword word.Enum) ts w rest f e = enum_sound ts w rest f e
words_sound (terminal_is.Keyword _) ts w rest f e = integer_sound ts w rest e
words_sound (terminal_is.TypeName n) ts w rest f e = named_sound n ts w rest f e
words_sound _ ts w rest f e = absurd cc

bare_sound : (ts : List Lexeme) (w : BareWords) (rest : List Lexeme)
    → bare_words ts ≡ Some (w, rest) → IsBareWords ts w rest
unfolding bare_words
bare_sound ts w rest e = words_sound (front ts) ts w rest refl e

integer_front : (ts : List Lexeme) (ks : List KeywordAt) (rest : List Lexeme) (i : IntType)
    → Many IsKeyword ts ks rest → integer_type (map (λ k. k.keyword) ks) ≡ Some i
    → (k : Keyword) × (front ts ≡ terminal_is.Keyword k) × (is_integer_word k ≡ true)
    × (length rest < length ts)
unfolding front
integer_front _ _ rest i no_more is = absurd (no_integer i is)
integer_front _ (x ∷ ks) rest i (one_more (a_keyword {p = p} {k = k} at e) m) is =
    let all = integer_keywords (map (λ k. k.keyword) (x ∷ ks)) i is in
    let known : is_integer_word k ≡ true = subst (λ y. is_integer_word y.keyword ≡ true) e all.0 in
    let l = many_no_longer (token_items keyword_at) (keywords_taken m all.1) in
    (k, at, known, omega arith)

bare_by_integer : (ts : List Lexeme) (k : Keyword) → front ts ≡ terminal_is.Keyword k
    → is_integer_word k ≡ true → words_for (front ts) ts ≡ integer_words ts
bare_by_integer ts k e is = ap (λ t. words_for t ts) e ∙ words_by_integer k is ts

bare_complete : (ts : List Lexeme) (w : BareWords) (rest : List Lexeme)
    → IsBareWords ts w rest → begins_integer (front rest) ≡ false → bare_words ts ≡ Some (w, rest)
unfolding bare_words front
bare_complete _ w rest (void is e) g = rw (is, e) refl
bare_complete ts w rest (integer {ks = ks} {i = i} m is e) g =
    let f = integer_front ts ks rest i m is in
    bare_by_integer ts f.0 f.1 f.2
    ∙ (integer_complete ts ks i rest m is g ∙ ap (λ v. Some (v, rest)) (sym e))
bare_complete _ w rest (struct_tag {ts = us} {tag = tag} is t e) g =
    rw (is, some_tag us tag rest t, e) refl
bare_complete _ w rest (enum_tag {ts = us} {tag = tag} is t e) g =
    rw (is, some_tag us tag rest t, e) refl
bare_complete _ w rest (a_type_name is e) g = rw (is, e) refl

bare_front : (ts : List Lexeme) (w : BareWords) (rest : List Lexeme) → IsBareWords ts w rest
    → begins_words (front ts) ≡ true
unfolding front
bare_front _ w rest (void is e) = rw is refl
bare_front ts w rest (integer {ks = ks} {i = i} m is e) =
    let f = integer_front ts ks rest i m is in rw f.1 (integer_is_type_word f.0 f.2)
bare_front _ w rest (struct_tag is t e) = rw is refl
bare_front _ w rest (enum_tag is t e) = rw is refl
bare_front _ w rest (a_type_name is e) = rw is refl

tag_shorter : (ts : List Lexeme) (x : NameAt) (rest : List Lexeme) → IsTagName ts x rest
    → length rest < length ts
tag_shorter _ x rest (a_tag is e) = omega arith

bare_shorter : (ts : List Lexeme) (w : BareWords) (rest : List Lexeme) → IsBareWords ts w rest
    → length rest < length ts
bare_shorter _ w rest (void is e) = omega arith
bare_shorter ts w rest (integer {ks = ks} {i = i} m is e) = (integer_front ts ks rest i m is).3
bare_shorter _ w rest (struct_tag {ts = us} {tag = tag} is t e) =
    let s = tag_shorter us tag rest t in omega arith
bare_shorter _ w rest (enum_tag {ts = us} {tag = tag} is t e) =
    let s = tag_shorter us tag rest t in omega arith
bare_shorter _ w rest (a_type_name is e) = omega arith

-- words without a body
pub bare_law : Law (λ ts. begins_words (front ts) ≡ true) (λ ts. begins_integer (front ts) ≡ false)
    bare_words IsBareWords
bare_law = record {
  sound = bare_sound;
  complete = bare_complete;
  shorter = bare_shorter;
  begins = bare_front;
}

-- ---- types

ends_specifier : (t : Terminal) → continues_type t ≡ false → begins_specifier t ≡ false
unfolding continues_type
ends_specifier t e = or_left (begins_specifier t) (begins_integer t || is_star t) e

ends_integer : (t : Terminal) → continues_type t ≡ false → begins_integer t ≡ false
unfolding continues_type
ends_integer t e =
    or_left (begins_integer t) (is_star t)
    (or_right (begins_specifier t) (begins_integer t || is_star t) e)

ends_star : (t : Terminal) → continues_type t ≡ false → is_star t ≡ false
unfolding continues_type
ends_star t e =
    or_right (begins_integer t) (is_star t)
    (or_right (begins_specifier t) (begins_integer t || is_star t) e)

-- a type of these parts, where they have at most one storage-class specifier
abbrev made_if : Bool → TreeType → Parser TreeType
made_if o t = if o then pure t else refuse

type_made : (ts : List Lexeme) (before behind : List SpecifierAt) (w : BareWords) (s : TreeStars)
    (us vs ws mid : List Lexeme) (t : TreeType) (rest : List Lexeme)
    → Many IsSpecifier ts before us → IsBareWords us w vs → Many IsSpecifier vs behind ws
    → IsStars ws s mid
    → made_if (one_storage before behind)
    (record { before = before; words = w; behind = behind; stars = s }) mid ≡ Some (t, rest)
    → IsType ts t rest
type_made ts before behind w s us vs ws mid t rest a b c d e =
    elim (one_storage before behind)
    as (λ o. one_storage before behind ≡ o
    → made_if o (record { before = before; words = w; behind = behind; stars = s }) mid
    ≡ Some (t, rest)
    → IsType ts t rest) [
      | true ↦ λ is f.
          let same = some_same (record { before = before; words = w; behind = behind; stars = s })
          t mid rest f in
          moved IsType (a_type a b c (storage_of_one before behind is) d refl) same.0 same.1
      | false ↦ λ is f. absurd cc
    ] refl e

type_sound : (ts : List Lexeme) (t : TreeType) (rest : List Lexeme)
    → type_name ts ≡ Some (t, rest) → IsType ts t rest
unfolding type_name
type_sound ts t rest e =
    let a = bound (specifiers ts) _ t rest e in
    let b = bound (bare_words a.mid) _ t rest a.second in
    let c = bound (specifiers b.mid) _ t rest b.second in
    let d = bound (stars c.mid) _ t rest c.second in
    type_made ts a.made c.made b.made d.made a.mid b.mid c.mid d.mid t rest
    (specifiers_sound ts a.made a.mid a.first) (bare_sound a.mid b.made b.mid b.first)
    (specifiers_sound b.mid c.made c.mid c.first) (stars_sound c.mid d.made d.mid d.first) d.second

no_specifier_behind : {ts : List Lexeme} {xs : List TreeStar} {rest : List Lexeme}
    → Many IsStar ts xs rest → continues_type (front rest) ≡ false → NoSpecifier ts
no_specifier_behind {rest = rest} m g = many_good star_items m (ends_specifier (front rest) g)

no_integer_before_stars : {ts : List Lexeme} {xs : List TreeStar} {rest : List Lexeme}
    → Many IsStar ts xs rest → continues_type (front rest) ≡ false
    → begins_integer (front ts) ≡ false
no_integer_before_stars {rest = rest} no_more g = ends_integer (front rest) g
no_integer_before_stars (one_more {ts} {mid} {rest} {x} i m) g =
    star_no_integer (front ts) (star_begins ts x mid i)

specifier_front : (ts : List Lexeme) (x : SpecifierAt) (rest : List Lexeme)
    → IsSpecifier ts x rest → begins_specifier (front ts) ≡ true
unfolding front
specifier_front _ x rest (a_specifier {p = p} {k = k} {s = s} is of e) =
    specifier_begins p.terminal k s is of

no_integer_behind : {ts us rest : List Lexeme} {xs : List SpecifierAt} {stars : List TreeStar}
    → Many IsSpecifier ts xs us → Many IsStar us stars rest
    → continues_type (front rest) ≡ false → begins_integer (front ts) ≡ false
no_integer_behind no_more s g = no_integer_before_stars s g
no_integer_behind (one_more {ts} {mid} {rest} {x} i m) s g =
    specifier_no_integer (front ts) (specifier_front ts x mid i)

type_complete : (ts : List Lexeme) (t : TreeType) (rest : List Lexeme) → IsType ts t rest
    → EndsType rest → type_name ts ≡ Some (t, rest)
unfolding type_name
type_complete ts t rest
    (a_type {us = us} {vs = vs} {ws = ws} {before = before} {behind = behind} {w = w} {stars = s}
    a b c o (some_stars {stars = found} d f) e) g =
    let no_words = words_no_specifier (front us) (bare_front us w vs b) in
    rw (
      specifiers_complete ts before us a no_words,
      bare_complete us w vs b (no_integer_behind c d g),
      specifiers_complete vs behind ws c (no_specifier_behind d g),
      stars_complete ws s rest (some_stars d f) (ends_specifier (front rest) g)
          (ends_star (front rest) g),
      one_storage_of before behind o,
      e,
    ) refl

type_shorter : (ts : List Lexeme) (t : TreeType) (rest : List Lexeme) → IsType ts t rest
    → length rest < length ts
type_shorter ts t rest
    (a_type {us = us} {vs = vs} {ws = ws} {w = w} a b c o (some_stars d f) e) =
    let before = specifiers_no_longer a in
    let middle = bare_shorter us w vs b in
    let behind = specifiers_no_longer c in
    let last = many_no_longer star_items d in
    omega arith

type_front_by : {ts us : List Lexeme} {xs : List SpecifierAt} → Many IsSpecifier ts xs us
    → begins_words (front us) ≡ true → begins_type (front ts) ≡ true
unfolding begins_type
type_front_by {us = us} no_more w =
    or_of_right (begins_specifier (front us)) (begins_words (front us)) w
type_front_by (one_more {ts} {mid} {rest} {x} i m) w =
    or_of_left (begins_specifier (front ts)) (begins_words (front ts)) (specifier_front ts x mid i)

type_front : (ts : List Lexeme) (t : TreeType) (rest : List Lexeme) → IsType ts t rest
    → begins_type (front ts) ≡ true
type_front ts t rest (a_type {us = us} {vs = vs} {w = w} a b c o d e) =
    type_front_by a (bare_front us w vs b)

pub type_law : Law BeginsType EndsType type_name IsType
type_law = record {
  sound = type_sound;
  complete = type_complete;
  shorter = type_shorter;
  begins = type_front;
}
