-- Which tokens open and close, and where tokens are
use Rattle.std.proofs.Common.{◌≡◌, ℕ, List, [], ◌∷◌, ◌++◌, Some, None, Bool, true, false, ◌&&◌, ◌||◌, refl, sym, ap, ◌∙◌, append_assoc, append-nil, ◌⊎◌, inl, inr, ⊎_elim, cond, codes, bytes_eq}
use Rattle.std.proofs.lemmas.Bool.{and_parts, both_ways, cond-true, cond-false, false_from_ne_true, or_cases, or_right}
use Rattle.std.proofs.lemmas.Slice.Eq.{bytes_eq-Decides}
use Rattle.cx_base.specs.declared.place.Place.{Place}
use Rattle.cx_tokens.specs.declared.token.Token.{Token}
use Rattle.cx_tokens.specs.Brackets.{DoesNotFit, IsNested, IsOpen, IsUnpaired, closes, fits, is_punct, is_punctuator, left_open, more, none, nothing, opens, other, pair, unfit}
use Rattle.cx_tokens.specs.Shapes.Pairing.{unpaired_place, fits_first, place_first, without_first}

pub punctuator_text : (text : List ℕ) (t : Token) → is_punctuator text t ≡ true → text ≡ t.text
unfolding is_punctuator
punctuator_text text t h = (bytes_eq-Decides text t.text).0 (and_parts (is_punct t.kind) (bytes_eq text t.text) h).1

-- one of three texts
IsOneOf : List ℕ → List ℕ → List ℕ → List ℕ → Type 0
IsOneOf a b c text = (a ≡ text) ⊎ ((b ≡ text) ⊎ (c ≡ text))

one_of : (a b c : List ℕ) (t : Token) → (is_punctuator a t || (is_punctuator b t || (is_punctuator c t || false))) ≡ true → IsOneOf a b c t.text
unfolding IsOneOf
one_of a b c t h =
    ⊎_elim (λ e. inl (punctuator_text a t e))
    (λ e. ⊎_elim (λ f. inr (inl (punctuator_text b t f)))
    (λ f. ⊎_elim (λ g. inr (inr (punctuator_text c t g))) (λ (g : false ≡ true). absurd cc) (or_cases (is_punctuator c t) false f))
    (or_cases (is_punctuator b t) (is_punctuator c t || false) e))
    (or_cases (is_punctuator a t) (is_punctuator b t || (is_punctuator c t || false)) h)

differ : (a b text : List ℕ) → bytes_eq a b ≡ false → a ≡ text → b ≡ text → ⊥
differ a b text h e f = both_ways (bytes_eq a b) h ((bytes_eq-Decides a b).1 (e ∙ sym f))

none_closes : (a text : List ℕ) → bytes_eq a (codes ")") ≡ false → bytes_eq a (codes "]") ≡ false → bytes_eq a (codes "}") ≡ false → a ≡ text
    → IsOneOf (codes ")") (codes "]") (codes "}") text → ⊥
unfolding IsOneOf
none_closes a text p q r e k =
    ⊎_elim (λ f. differ a (codes ")") text p e f) (λ g. ⊎_elim (λ f. differ a (codes "]") text q e f) (λ f. differ a (codes "}") text r e f) g) k

not_both : (text : List ℕ) → IsOneOf (codes "(") (codes "[") (codes "{") text → IsOneOf (codes ")") (codes "]") (codes "}") text → ⊥
unfolding IsOneOf
not_both text h k =
    ⊎_elim (λ e. none_closes (codes "(") text refl refl refl e k)
    (λ d. ⊎_elim (λ e. none_closes (codes "[") text refl refl refl e k) (λ e. none_closes (codes "{") text refl refl refl e k) d)
    h

pub closing_opens_not : (t : Token) → closes t ≡ true → opens t ≡ false
unfolding opens closes
closing_opens_not t h =
    false_from_ne_true (opens t) (λ e. not_both t.text (one_of (codes "(") (codes "[") (codes "{") t e) (one_of (codes ")") (codes "]") (codes "}") t h))

pub opening_closes_not : (t : Token) → opens t ≡ true → closes t ≡ false
opening_closes_not t h = false_from_ne_true (closes t) (λ e. both_ways (opens t) (closing_opens_not t e) h)

fitting : (a b c d e f : Bool) → ((a && d) || ((b && e) || ((c && f) || false))) ≡ true → ((a || (b || (c || false))) ≡ true) × ((d || (e || (f || false))) ≡ true)
fitting true b c true e f h = (refl, refl)
fitting a true c d true f h = (or_right a true refl, or_right d true refl)
fitting a b true d e true h = (or_right a (b || true) (or_right b true refl), or_right d (e || true) (or_right e true refl))
fitting false false false d e f h = absurd cc
fitting false false true d e false h = absurd cc
fitting false true false d false f h = absurd cc
fitting false true true d false false h = absurd cc
fitting true false false false e f h = absurd cc
fitting true false true false e false h = absurd cc
fitting true true false false false f h = absurd cc
fitting true true true false false false h = absurd cc

pub fitting_parts : (a b : Token) → fits a b ≡ true → (opens a ≡ true) × (closes b ≡ true)
unfolding fits opens closes
fitting_parts a b h =
    fitting (is_punctuator (codes "(") a) (is_punctuator (codes "[") a) (is_punctuator (codes "{") a) (is_punctuator (codes ")") b) (is_punctuator (codes "]") b) (is_punctuator (codes "}") b) h

-- ---- nested tokens

pub nested_append : {a b : List Token} → IsNested a → IsNested b → IsNested (a ++ b)
nested_append nothing k = k
nested_append (other o c h) k = other o c (nested_append h k)
nested_append {b = d} (pair a b inner rest e f h i) k =
    pair a b inner (rest ++ d) (ap (λ t. t ++ d) e ∙ ap (λ t. a ∷ t) (append_assoc inner (b ∷ rest) d)) f h (nested_append i k)

-- ---- the fault of tokens

pub fault_open : (left : List Token) (t : Token) (ts : List Token) → opens t ≡ true → unpaired_place left (t ∷ ts) ≡ unpaired_place (t ∷ left) ts
unfolding unpaired_place
fault_open left t ts o = cond-true (opens t) _ _ o

pub fault_close : (left : List Token) (t : Token) (ts : List Token) → closes t ≡ true
    → unpaired_place left (t ∷ ts) ≡ cond (fits_first left t) (unpaired_place (without_first left) ts) (Some t.place)
unfolding unpaired_place
fault_close left t ts c = cond-false (opens t) _ _ (closing_opens_not t c) ∙ cond-true (closes t) _ _ c

pub fault_other : (left : List Token) (t : Token) (ts : List Token) → opens t ≡ false → closes t ≡ false → unpaired_place left (t ∷ ts) ≡ unpaired_place left ts
unfolding unpaired_place
fault_other left t ts o c = cond-false (opens t) _ _ o ∙ cond-false (closes t) _ _ c

pub fault_end : (left : List Token) → unpaired_place left [] ≡ place_first left
unfolding unpaired_place
fault_end left = refl

pub fault_nested : {ts : List Token} → IsNested ts → (left rest : List Token) → unpaired_place left (ts ++ rest) ≡ unpaired_place left rest
fault_nested nothing left last = refl
fault_nested (other {t = t} {rest = rest} o c h) left last = fault_other left t (rest ++ last) o c ∙ fault_nested h left last
fault_nested (pair a b inner rest e f h i) left last =
    let p = fitting_parts a b f in
    ap (λ t. unpaired_place left (t ++ last)) e
    ∙ fault_open left a ((inner ++ b ∷ rest) ++ last) p.0
    ∙ ap (unpaired_place (a ∷ left)) (append_assoc inner (b ∷ rest) last)
    ∙ fault_nested h (a ∷ left) (b ∷ (rest ++ last))
    ∙ fault_close (a ∷ left) b (rest ++ last) p.1
    ∙ cond-true (fits a b) _ _ f
    ∙ fault_nested i left last

pub nested_no_fault : {ts : List Token} → IsNested ts → unpaired_place [] ts ≡ None
nested_no_fault {ts = ts} h = ap (unpaired_place []) (sym (append-nil ts)) ∙ fault_nested h [] [] ∙ fault_end []

fault_opened : {front left : List Token} → IsOpen front left → (rest : List Token) → unpaired_place [] (front ++ rest) ≡ unpaired_place left rest
fault_opened (none h) rest = fault_nested h [] rest
fault_opened (more {left = left} {a = a} front inner e h o i) rest =
    ap (λ t. unpaired_place [] (t ++ rest)) e ∙ ap (unpaired_place []) (append_assoc front (a ∷ inner) rest) ∙ fault_opened h (a ∷ (inner ++ rest))
    ∙ fault_open left a (inner ++ rest) o ∙ fault_nested i (a ∷ left) rest

not_fitting : (left : List Token) (b : Token) → DoesNotFit left b → fits_first left b ≡ false
not_fitting [] b h = refl
not_fitting (a ∷ left) b h = h

pub unpaired_fault : {ts : List Token} {p : Place} → IsUnpaired ts p → unpaired_place [] ts ≡ Some p
unpaired_fault (unfit b front rest left e h c d) =
    ap (unpaired_place []) e ∙ fault_opened h (b ∷ rest) ∙ fault_close left b rest c ∙ cond-false (fits_first left b) _ _ (not_fitting left b d)
unpaired_fault (left_open {all = all} a left h) =
    ap (unpaired_place []) (sym (append-nil all)) ∙ fault_opened h [] ∙ fault_end (a ∷ left)

pub nested_not_unpaired : {ts : List Token} {p : Place} → IsNested ts → IsUnpaired ts p → ⊥
nested_not_unpaired h k = let a = nested_no_fault h in let b = unpaired_fault k in cc
