-- The value of a number, digit by digit.
use Rattle.std.proofs.Common.{◌≡◌, ℕ, ◌+◌, ◌-◌, ◌*◌, ◌≤◌, List, [], ◌∷◌, Option, Some, None, true, false, refl, sym, ap, ◌∙◌, subst, cond, fold, ◌&&◌, ◌==◌, arith, MatchOption, ⊎_elim}
use Rattle.std.specs.List.{list_all}
use Rattle.std.proofs.lemmas.Bool.{cond-true, cond-false, and_parts, and_from, leb-true, le-leb, eqb-true, eq-eqb, cases_Bool}
use Rattle.cx_lex.specs.Characters.{is_digit}
use Rattle.cx_first.specs.Shapes.Digits.{digits_from, is_longer, takes_digit, value_of}
use Rattle.cx_first.specs.Numbers.{IsIntConstant, greatest, number_of}

pub digits_end : (value : ℕ) → digits_from value [] ≡ Some value
unfolding digits_from
digits_end value = refl

pub digits_step : (value b : ℕ) (bs : List ℕ) → takes_digit value b ≡ true → digits_from value (b ∷ bs) ≡ digits_from (10 * value + (b - 48)) bs
unfolding digits_from
digits_step value b bs e = cond-true (takes_digit value b) _ _ e

pub digits_stop : (value b : ℕ) (bs : List ℕ) → takes_digit value b ≡ false → digits_from value (b ∷ bs) ≡ None
unfolding digits_from
digits_stop value b bs e = cond-false (takes_digit value b) _ _ e

takes_parts : (value b : ℕ) → takes_digit value b ≡ true → (is_digit b ≡ true) × (10 * value + (b - 48) ≤ greatest)
unfolding takes_digit
takes_parts value b e = let p = and_parts _ _ e in (p.0, leb-true _ _ p.1)

takes_from : (value b : ℕ) → is_digit b ≡ true → 10 * value + (b - 48) ≤ greatest → takes_digit value b ≡ true
unfolding takes_digit
takes_from value b d l = and_from _ _ d (le-leb _ _ l)

-- what the digits make of a value
abbrev number_from : ℕ → List ℕ → ℕ
number_from n bs = fold (λ value digit. 10 * value + (digit - 48)) n bs

grows : (bs : List ℕ) (n : ℕ) → n ≤ number_from n bs
grows [] n = omega arith
grows (b ∷ bs) n = let h = grows bs (10 * n + (b - 48)) in omega (arith, h)

some_parts : (bs : List ℕ) (n v : ℕ) → n ≤ greatest → digits_from n bs ≡ Some v → (list_all is_digit bs ≡ true) × (v ≡ number_from n bs) × (v ≤ greatest)
some_parts [] n v l e = let k = digits_end n in let f : v ≡ n = cc in (refl, f, omega arith)
some_parts (b ∷ bs) n v l e =
    ⊎_elim
    (λ (t : takes_digit n b ≡ true). let p = takes_parts n b t in
    let r = some_parts bs (10 * n + (b - 48)) v p.1 (sym (digits_step n b bs t) ∙ e) in
    (and_from _ _ p.0 r.0, r.1, r.2))
    (λ (t : takes_digit n b ≡ false). absurd (let k = digits_stop n b bs t in cc))
    (cases_Bool (takes_digit n b))

some_from : (bs : List ℕ) (n : ℕ) → list_all is_digit bs ≡ true → number_from n bs ≤ greatest → digits_from n bs ≡ Some (number_from n bs)
some_from [] n a l = digits_end n
some_from (b ∷ bs) n a l =
    let p = and_parts (is_digit b) (list_all is_digit bs) a in
    let g = grows bs (10 * n + (b - 48)) in
    let m : 10 * n + (b - 48) ≤ greatest = omega (arith, g, l) in
    digits_step n b bs (takes_from n b p.0 m) ∙ some_from bs (10 * n + (b - 48)) p.1 l

longer_nil : (bs : List ℕ) → is_longer bs ≡ false → bs ≡ []
longer_nil [] e = refl
longer_nil (b ∷ bs) e = absurd cc

value_cons : (b : ℕ) (bs : List ℕ) → value_of (b ∷ bs) ≡ cond ((b == 48) && is_longer bs) None (digits_from 0 (b ∷ bs))
unfolding value_of
value_cons b bs = refl

value_nil : value_of [] ≡ None
unfolding value_of
value_nil = refl

pub zero_within : 0 ≤ greatest
unfolding greatest
zero_within = omega arith

pub value_some : (text : List ℕ) (v : ℕ) → value_of text ≡ Some v → IsIntConstant text × (v ≡ number_of text)
value_some [] v e = absurd (let k = value_nil in cc)
value_some (b ∷ bs) v e =
    ⊎_elim
    (λ (t : ((b == 48) && is_longer bs) ≡ true). absurd (let k = value_cons b bs in let m = cond-true ((b == 48) && is_longer bs) None (digits_from 0 (b ∷ bs)) t in cc))
    (λ (t : ((b == 48) && is_longer bs) ≡ false).
    let r = some_parts (b ∷ bs) 0 v zero_within (sym (cond-false ((b == 48) && is_longer bs) None (digits_from 0 (b ∷ bs)) t) ∙ sym (value_cons b bs) ∙ e) in
    (((r.0, λ z. longer_nil bs (lone b bs t z)), subst (λ x. x ≤ greatest) r.1 r.2), r.1))
    (cases_Bool ((b == 48) && is_longer bs))
  where
    lone : (b : ℕ) (bs : List ℕ) → ((b == 48) && is_longer bs) ≡ false → b ≡ 48 → is_longer bs ≡ false
    lone b bs t z = let k = eq-eqb b 48 z in grind arith

pub value_from : (text : List ℕ) → IsIntConstant text → value_of text ≡ Some (number_of text)
value_from [] h = absurd h.0
value_from (b ∷ bs) h =
    value_cons b bs ∙ cond-false ((b == 48) && is_longer bs) None (digits_from 0 (b ∷ bs)) (several b bs h.0.1) ∙ some_from (b ∷ bs) 0 h.0.0 h.1
  where
    several : (b : ℕ) (bs : List ℕ) → (b ≡ 48 → bs ≡ []) → ((b == 48) && is_longer bs) ≡ false
    several b [] h = grind arith
    several b (c ∷ cs) h = ⊎_elim (λ (t : (b == 48) ≡ true). absurd (let k = h (eqb-true b 48 t) in cc)) (λ (t : (b == 48) ≡ false). ap (λ x. x && true) t) (cases_Bool (b == 48))

-- what `number_value` promises
pub value_is : (text : List ℕ) (o : Option ℕ) → o ≡ value_of text → MatchOption o (¬ IsIntConstant text) (λ v. IsIntConstant text × (v ≡ number_of text))
value_is text None e = λ h. let k = value_from text h in absurd cc
value_is text (Some v) e = value_some text v (sym e)
