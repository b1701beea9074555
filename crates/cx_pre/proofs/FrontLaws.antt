-- The front of a line before a comment with no end, or before one piece too many.
use Rattle.std.proofs.Common.{◌≡◌, ℕ, zero, suc, ◌+◌, ◌-◌, ◌<◌, ◌≤◌, List, [], ◌∷◌, ◌++◌, Bool, true, false, not, cond, ◌&&◌, ◌==◌, refl, sym, ap, ◌∙◌, subst, arith, length, take, drop, append_assoc, append-nil, codes, inl, inr, ⊎_elim}
use Rattle.std.proofs.lemmas.Bool.{and_from, and_parts}
use Rattle.std.proofs.lemmas.Bool.Decides.{nat_tests}
use Rattle.std.proofs.lemmas.List.{length-append}
use Rattle.cx_base.specs.declared.place.Place.{Place}
use Rattle.cx_tokens.specs.declared.token.Kind.{Kind}
use Rattle.cx_tokens.specs.declared.token.Kind.TheVariants.{Name, Number, Char, String, Unclosed, Header, Punct, Other}
use Rattle.cx_lex.specs.declared.before.Before.{Before}
use Rattle.cx_lex.specs.declared.before.Directive.{Directive}
use Rattle.cx_lex.specs.declared.before.Directive.TheVariants.{Nothing, Hash, Include}
use Rattle.cx_lex.specs.declared.character.Character.{Character}
use Rattle.cx_lex.specs.declared.comment.Comment.{Comment}
use Rattle.cx_lex.specs.declared.piece.Piece.{Piece}
use Rattle.cx_lex.specs.Elements.{BeginsWith, Element, EndsLine, HasForm, HasHeader, IsComment, IsElement, IsPiece, after_element, at_start, characters_of, comment, lacks, piece, separator}
use Rattle.cx_lex.specs.Forms.{BeginsWithDigit, IsLongest}
use Rattle.cx_lex.specs.Lexing as lexing
use Rattle.cx_lex.specs.Lexing.{AreElements, Lexes, Outcome, all_characters, comments_of, lexed, pieces_of, place_of, too_long, unclosed_comment}
use Rattle.cx_lex.specs.Lines.{begins_with_newline, bytes_of, characters, file_characters, file_start, next_column, place_after}
use Rattle.cx_lex.proofs.ElementSound.{bytes_append}
use Rattle.cx_lex.proofs.FormLaws.{no_empty_punctuator}
use Rattle.cx_lex.proofs.FrontLaws.{no_empty_name}

-- elements without what stands behind them

ends_cut : (front rest : List Character) → EndsLine (front ++ rest) → EndsLine front
ends_cut [] rest h = tt
ends_cut (c ∷ cs) rest h = h

longest_cut : (text front rest : List ℕ) → IsLongest text (front ++ rest) → IsLongest text front
longest_cut text front rest h = λ kind more others e t. h kind more (others ++ rest) (ap (λ l. l ++ rest) e ∙ append_assoc more others rest) t

longest_front : (text : List ℕ) (front rest : List Character) → IsLongest text (bytes_of (front ++ rest)) → IsLongest text (bytes_of front)
longest_front text front rest h = longest_cut text (bytes_of front) (bytes_of rest) (subst (IsLongest text) (bytes_append front rest) h)

form_cut : (kind : Kind) (cs front rest : List Character) → HasForm kind cs (front ++ rest) → HasForm kind cs front
form_cut Char cs front rest h = h
form_cut String cs front rest h = h
form_cut Unclosed cs front rest h = (h.0, ends_cut front rest h.1)
form_cut Header cs front rest h = h
form_cut Other cs front rest h = h
form_cut Name cs front rest h = (h.0, longest_front (bytes_of cs) front rest h.1)
form_cut Number cs front rest h = (h.0, longest_front (bytes_of cs) front rest h.1)
form_cut Punct cs front rest h = (h.0, longest_front (bytes_of cs) front rest h.1)

begins_more : (word : List ℕ) (cs front rest : List Character) → BeginsWith word (bytes_of (cs ++ front)) → BeginsWith word (bytes_of (cs ++ (front ++ rest)))
begins_more word cs front rest h = (
  h.0 ++ bytes_of rest,
  ap bytes_of (sym (append_assoc cs front rest)) ∙ bytes_append (cs ++ front) rest ∙ ap (λ l. l ++ bytes_of rest) h.1
      ∙ append_assoc word h.0 (bytes_of rest),
)

header_more : (d : Directive) (cs front rest : List Character) → HasHeader d (cs ++ front) → HasHeader d (cs ++ (front ++ rest))
header_more Include cs front rest h = (
  h.0,
  h.1 ++ rest,
  sym (append_assoc cs front rest) ∙ ap (λ l. l ++ rest) h.2 ∙ append_assoc h.0 h.1 rest,
  h.3,
  h.4,
)
header_more Hash cs front rest h = h
header_more Nothing cs front rest h = h

piece_cut : (before : Before) (kind : Kind) (cs front rest : List Character) → IsPiece before kind cs (front ++ rest) → IsPiece before kind cs front
piece_cut before kind cs front rest h = record {
  one_line = h.one_line;
  form = form_cut kind cs front rest h.form;
  no_line_comment = λ b. h.no_line_comment (begins_more (codes "//") cs front rest b);
  no_block_comment = λ b. h.no_block_comment (begins_more (codes "/*") cs front rest b);
  header = h.header;
  no_header = λ other b. h.no_header other (header_more before.directive cs front rest b);
}

comment_cut : (opening text end front rest : List Character) → IsComment opening text end (front ++ rest) → IsComment opening text end front
comment_cut opening text end front rest (inl h) = inl (h.0, h.1, h.2, ends_cut front rest h.3)
comment_cut opening text end front rest (inr h) = inr h

element_cut : (before : Before) (e : Element) (front rest : List Character) → IsElement before e (front ++ rest) → IsElement before e front
element_cut before (separator c) front rest h = h
element_cut before (comment opening text end) front rest h = comment_cut opening text end front rest h
element_cut before (piece kind cs) front rest h = piece_cut before kind cs front rest h

-- elements that stand in front of a rest stand in front of nothing
pub elements_cut : (before : Before) (es : List Element) (rest : List Character) → AreElements before es rest → AreElements before es []
elements_cut before [] rest h = tt
elements_cut before (e ∷ es) rest h = (
  subst (IsElement before e) (sym (append-nil (all_characters es))) (element_cut before e (all_characters es) rest h.0),
  elements_cut (after_element before e) es rest h.1,
)

-- elements in front of others

spelled_both : (es fs : List Element) → all_characters (es ++ fs) ≡ all_characters es ++ all_characters fs
spelled_both [] fs = refl
spelled_both (e ∷ es) fs = ap (λ t. characters_of e ++ t) (spelled_both es fs) ∙ sym (append_assoc (characters_of e) (all_characters es) (all_characters fs))

front_elements : (before : Before) (es fs : List Element) (rest : List Character) → AreElements before (es ++ fs) rest → AreElements before es (all_characters fs ++ rest)
front_elements before [] fs rest h = tt
front_elements before (e ∷ es) fs rest h = (
  subst (IsElement before e) (ap (λ t. t ++ rest) (spelled_both es fs) ∙ append_assoc (all_characters es) (all_characters fs) rest) h.0,
  front_elements (after_element before e) es fs rest h.1,
)

last_element : (before : Before) (es : List Element) (e : Element) (rest : List Character) → AreElements before (es ++ e ∷ []) rest
    → (b : Before) × IsElement b e rest
last_element before [] e rest h = (before, h.0)
last_element before (f ∷ es) e rest h = last_element (after_element before f) es e rest h.1

-- a piece has a character

no_form : (kind : Kind) (rest : List Character) → HasForm kind [] rest → ⊥
no_form Char rest h = absurd cc (h.1)
no_form String rest h = absurd cc (h.1)
no_form Unclosed rest h = h.0
no_form Header rest h = no_empty_name h
no_form Other rest h = h.0
no_form Name rest h = h.0
no_form Number rest (h, l) = ⊎_elim (λ (u : BeginsWithDigit []). u) (λ (u : (rest : List ℕ) × ([] ≡ codes "." ++ rest) × BeginsWithDigit rest). no_dot u.0 u.1) h
  where
    no_dot : (rest : List ℕ) → [] ≡ codes "." ++ rest → ⊥
    no_dot rest e = cc
no_form Punct rest h = no_empty_punctuator h.0

some_characters : (before : Before) (kind : Kind) (cs rest : List Character) → IsPiece before kind cs rest → (c : Character) × (more : List Character) × (cs ≡ c ∷ more)
some_characters before kind [] rest h = absurd (no_form kind rest h.form)
some_characters before kind (c ∷ cs) rest h = (c, cs, refl)

-- the characters of a text with no newline

abbrev flat : Place → List ℕ → List Character
flat at [] = []
flat at (b ∷ bs) = (record { code = b; in_newline = false; place = at }) ∷ flat (next_column at) bs

begins_no_newline : (text : List ℕ) → lacks 10 text ≡ true → begins_with_newline text ≡ false
begins_no_newline [] h = refl
begins_no_newline (b ∷ []) h = grind (arith, nat_tests)
begins_no_newline (b ∷ c ∷ cs) h = grind (arith, nat_tests)

flat_after : (b : ℕ) (at : Place) → (b == 10) ≡ false → place_after at b ≡ next_column at
unfolding place_after
flat_after b at e = rw e refl

flat_step : (deleted newline : Bool) (gone more flat_more : List Character) (code : ℕ) (at : Place) → deleted ≡ false → newline ≡ false → more ≡ flat_more
    → cond deleted gone ((record { code = code; in_newline = newline; place = at }) ∷ more) ≡ (record { code = code; in_newline = false; place = at }) ∷ flat_more
flat_step deleted newline gone more flat_more code at d n e = rw (d, n, e) refl

flat_is : (text : List ℕ) (at : Place) → lacks 10 text ≡ true → characters at text ≡ flat at text
unfolding characters
flat_is [] at h = refl
flat_is (b ∷ bs) at h =
    let p = and_parts (not (b == 10)) (lacks 10 bs) h in
    let none = begins_no_newline bs p.1 in
    let other : (b == 10) ≡ false = grind (arith, nat_tests) in
    flat_step ((b == 92) && begins_with_newline bs) (begins_with_newline (b ∷ bs)) _ (characters (place_after at b) bs) (flat (next_column at) bs) b at
    (grind (arith, none)) (begins_no_newline (b ∷ bs) h)
    (ap (λ q. characters q bs) (flat_after b at other) ∙ flat_is bs (next_column at) p.1)

flat_take : (n : ℕ) (text : List ℕ) (at : Place) → flat at (take n text) ≡ take n (flat at text)
flat_take zero text at = refl
flat_take (suc n) [] at = refl
flat_take (suc n) (b ∷ bs) at = ap (λ l. (record { code = b; in_newline = false; place = at }) ∷ l) (flat_take n bs (next_column at))

flat_place : (n : ℕ) (text : List ℕ) (at : Place) → n < length (flat at text) → (place_of (drop n (flat at text))).column ≡ at.column + n
flat_place n [] at h = absurd (omega arith)
flat_place zero (b ∷ bs) at h = omega arith
flat_place (suc n) (b ∷ bs) at h = let i = flat_place n bs (next_column at) (omega arith) in i ∙ omega arith

lacks_take : (n : ℕ) (text : List ℕ) → lacks 10 text ≡ true → lacks 10 (take n text) ≡ true
lacks_take zero text h = refl
lacks_take (suc n) [] h = refl
lacks_take (suc n) (b ∷ bs) h = let p = and_parts (not (b == 10)) (lacks 10 bs) h in and_from _ _ p.0 (lacks_take n bs p.1)

take_front : (xs ys : List Character) → take (length xs) (xs ++ ys) ≡ xs
take_front [] ys = refl
take_front (x ∷ xs) ys = ap (λ l. x ∷ l) (take_front xs ys)

drop_front : (xs ys : List Character) → drop (length xs) (xs ++ ys) ≡ ys
drop_front [] ys = refl
drop_front (x ∷ xs) ys = drop_front xs ys

-- what stands before a place has the characters before it
pub cut_front : (text : List ℕ) (front : List Character) (c : Character) (rest : List Character) → lacks 10 text ≡ true
    → file_characters 0 text ≡ front ++ c ∷ rest → file_characters 0 (take (c.place.column - 1) text) ≡ front
cut_front text front c rest h e =
    let f : flat (file_start 0) text ≡ front ++ c ∷ rest = sym (flat_is text (file_start 0) h) ∙ e in
    let long : length front < length (flat (file_start 0) text) = omega (arith, ap length f, length-append front (c ∷ rest)) in
    let at = flat_place (length front) text (file_start 0) long in
    let here : (place_of (drop (length front) (flat (file_start 0) text))).column ≡ c.place.column =
    ap (λ l. (place_of (drop (length front) l)).column) f ∙ ap (λ l. (place_of l).column) (drop_front front (c ∷ rest)) in
    let n : c.place.column - 1 ≡ length front = omega arith in
    ap (λ k. file_characters 0 (take k text)) n ∙ flat_is (take (length front) text) (file_start 0) (lacks_take (length front) text h)
    ∙ flat_take (length front) text (file_start 0) ∙ ap (take (length front)) f ∙ take_front front (c ∷ rest)

-- the front before the fault of a line

abbrev pub FrontLexes : ℕ → List ℕ → Place → Type 0
FrontLexes limit text at = (ps : List Piece) × (ks : List Comment) × Lexes 0 limit (take (at.column - 1) text) (lexed ps ks)

front_whole : (limit : ℕ) (text : List ℕ) (es : List Element) (c : Character) (rest : List Character) → lacks 10 text ≡ true
    → file_characters 0 text ≡ all_characters es ++ c ∷ rest → AreElements at_start es (c ∷ rest) → length (pieces_of at_start es) ≤ limit
    → FrontLexes limit text c.place
front_whole limit text es c rest h e a n = (
  pieces_of at_start es,
  comments_of at_start es,
  lexing.whole es (cut_front text (all_characters es) c rest h e) (elements_cut at_start es (c ∷ rest) a) n,
)

open_front : (limit : ℕ) (text : List ℕ) (es : List Element) (rest : List Character) (inner : List ℕ) → lacks 10 text ≡ true
    → file_characters 0 text ≡ all_characters es ++ rest → AreElements at_start es rest → length (pieces_of at_start es) ≤ limit
    → bytes_of rest ≡ codes "/*" ++ inner → FrontLexes limit text (place_of rest)
open_front limit text es [] inner h e a n b = absurd cc
open_front limit text es (c ∷ rest) inner h e a n b = front_whole limit text es c rest h e a n

long_front : (limit : ℕ) (text : List ℕ) (es : List Element) (kind : Kind) (cs rest : List Character) → lacks 10 text ≡ true
    → file_characters 0 text ≡ all_characters es ++ (cs ++ rest) → AreElements at_start es (cs ++ rest) → length (pieces_of at_start es) ≤ limit
    → ((c : Character) × (more : List Character) × (cs ≡ c ∷ more)) → FrontLexes limit text (place_of cs)
long_front limit text es kind [] rest h e a n s = absurd (no_more s.0 s.1 s.2)
  where
    no_more : (c : Character) (more : List Character) → [] ≡ c ∷ more → ⊥
    no_more c more e = cc
long_front limit text es kind (c ∷ cs) rest h e a n s = front_whole limit text es c (cs ++ rest) h e a n

-- what is to be shown of an outcome
abbrev pub FaultFront : ℕ → List ℕ → Outcome → Type 0
FaultFront limit text (lexed ps ks) = Unit {0}
FaultFront limit text (unclosed_comment at) = FrontLexes limit text at
FaultFront limit text (too_long at) = FrontLexes limit text at

pub fault_front : (limit : ℕ) (text : List ℕ) (o : Outcome) → lacks 10 text ≡ true → Lexes 0 limit text o → FaultFront limit text o
fault_front limit text o h (lexing.whole es e a n) = tt
fault_front limit text o h (lexing.open_comment es rest inner e a n b s) = open_front limit text es rest inner h e a n b
fault_front limit text o h (lexing.piece_more es kind cs rest e a n) =
    let l = last_element at_start es (piece kind cs) rest a in
    let same : all_characters (piece kind cs ∷ []) ++ rest ≡ cs ++ rest = ap (λ t. t ++ rest) (append-nil cs) in
    long_front limit text es kind cs rest h
    (e ∙ ap (λ t. t ++ rest) (spelled_both es (piece kind cs ∷ [])) ∙ append_assoc (all_characters es) (all_characters (piece kind cs ∷ [])) rest
    ∙ ap (λ t. all_characters es ++ t) same)
    (subst (AreElements at_start es) same (front_elements at_start es (piece kind cs ∷ []) rest a)) (omega arith)
    (some_characters l.0 kind cs rest l.1)
