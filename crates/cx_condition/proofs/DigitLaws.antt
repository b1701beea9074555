-- Digits that are read one by one have the value of their whole.
use Rattle.std.proofs.Common.{◌≡◌, ℕ, ◌+◌, ◌-◌, ◌*◌, ◌<◌, ◌≤◌, List, [], ◌∷◌, Option, Some, None, Bool, true, false, refl, sym, ap, ◌∙◌, subst, cond, arith, fold, ◌&&◌, nat_le, ⊎_elim}
use Rattle.std.specs.Prelude.{option_and_then, MatchOption}
use Rattle.std.proofs.lemmas.Option.{same_Some}
use Rattle.std.proofs.lemmas.Bool.{and_from, cond-true, cond-false, cases_Bool, cases_lt, leb-true, leb-false, le-leb, lt-leb}
use Rattle.cx_condition.specs.declared.digits.Base.{Base}
use Rattle.cx_condition.specs.declared.digits.Base.TheVariants.{Octal, Decimal, Hexadecimal}
use Rattle.cx_condition.specs.declared.integer.IntegerConstant.{IntegerConstant}
use Rattle.cx_condition.specs.Digits.{after_digits, begins_with_digit, digit_of, digits_of, digits_value, is_digit, radix}
use Rattle.cx_condition.specs.Constants.{closed, constant_of, numeric_escape, suffixed}
use Rattle.cx_condition.specs.Shapes.Reading.{digits_read, grown}

pub read_end : (base : Base) (n : ℕ) → digits_read base n [] ≡ Some (n, [])
unfolding digits_read
read_end base n = refl

pub read_stop : (base : Base) (n b : ℕ) (bs : List ℕ) → is_digit base b ≡ false → digits_read base n (b ∷ bs) ≡ Some (n, b ∷ bs)
unfolding digits_read
read_stop base n b bs e = cond-false (is_digit base b) _ _ e

pub read_more : (base : Base) (n b m : ℕ) (bs : List ℕ) → is_digit base b ≡ true → grown base n b ≡ Some m → digits_read base n (b ∷ bs) ≡ digits_read base m bs
unfolding digits_read
read_more base n b m bs e k = cond-true (is_digit base b) _ _ e ∙ ap (option_and_then (λ m. digits_read base m bs)) k

pub read_great : (base : Base) (n b : ℕ) (bs : List ℕ) → is_digit base b ≡ true → grown base n b ≡ None → digits_read base n (b ∷ bs) ≡ None
unfolding digits_read
read_great base n b bs e k = cond-true (is_digit base b) _ _ e ∙ ap (option_and_then (λ m. digits_read base m bs)) k

abbrev greatest : ℕ
greatest = 18446744073709551615

abbrev from : Base → ℕ → List ℕ → ℕ
from base n ds = fold (λ n b. radix base * n + digit_of b) n ds

radix_grows : (base : Base) (n d : ℕ) → n ≤ radix base * n + d
radix_grows Octal n d = omega arith
radix_grows Decimal n d = omega arith
radix_grows Hexadecimal n d = omega arith

grows : (base : Base) (ds : List ℕ) (n : ℕ) → n ≤ from base n ds
grows base [] n = omega arith
grows base (d ∷ ds) n = let h = grows base ds (radix base * n + digit_of d) in let k = radix_grows base n (digit_of d) in omega (arith, h, k)

grown_some : (base : Base) (n b : ℕ) → radix base * n + digit_of b ≤ greatest → grown base n b ≡ Some (radix base * n + digit_of b)
unfolding grown
grown_some base n b l = cond-true _ _ _ (le-leb _ _ l)

grown_none : (base : Base) (n b : ℕ) → greatest < radix base * n + digit_of b → grown base n b ≡ None
unfolding grown
grown_none base n b l = cond-false _ _ _ (lt-leb _ _ l)

digits_more : (base : Base) (b : ℕ) (bs : List ℕ) → is_digit base b ≡ true → digits_of base (b ∷ bs) ≡ b ∷ digits_of base bs
unfolding digits_of
digits_more base b bs e = cond-true (is_digit base b) _ _ e

digits_stop : (base : Base) (b : ℕ) (bs : List ℕ) → is_digit base b ≡ false → digits_of base (b ∷ bs) ≡ []
unfolding digits_of
digits_stop base b bs e = cond-false (is_digit base b) _ _ e

digits_end : (base : Base) → digits_of base [] ≡ []
unfolding digits_of
digits_end base = refl

after_more : (base : Base) (b : ℕ) (bs : List ℕ) → is_digit base b ≡ true → after_digits base (b ∷ bs) ≡ after_digits base bs
unfolding after_digits
after_more base b bs e = cond-true (is_digit base b) _ _ e

after_stop : (base : Base) (b : ℕ) (bs : List ℕ) → is_digit base b ≡ false → after_digits base (b ∷ bs) ≡ b ∷ bs
unfolding after_digits
after_stop base b bs e = cond-false (is_digit base b) _ _ e

after_end : (base : Base) → after_digits base [] ≡ []
unfolding after_digits
after_end base = refl

abbrev whole : Base → ℕ → List ℕ → Option (ℕ × List ℕ)
whole base n text = cond (nat_le (from base n (digits_of base text)) greatest) (Some (from base n (digits_of base text), after_digits base text)) None

same : (base : Base) (b : ℕ) (bs : List ℕ) (n : ℕ) → is_digit base b ≡ true → whole base n (b ∷ bs) ≡ whole base (radix base * n + digit_of b) bs
same base b bs n t =
    ap (λ ds. cond (nat_le (from base n ds) greatest) (Some (from base n ds, after_digits base (b ∷ bs))) None) (digits_more base b bs t)
    ∙ ap (λ r. cond (nat_le (from base (radix base * n + digit_of b) (digits_of base bs)) greatest) (Some (from base (radix base * n + digit_of b) (digits_of base bs), r)) None) (after_more base b bs t)

read_whole : (base : Base) (text : List ℕ) (n : ℕ) → n ≤ greatest → digits_read base n text ≡ whole base n text
read_whole base [] n l =
    read_end base n
    ∙ sym (ap (λ ds. cond (nat_le (from base n ds) greatest) (Some (from base n ds, after_digits base [])) None) (digits_end base)
    ∙ cond-true (nat_le n greatest) _ _ (le-leb _ _ l) ∙ ap (λ r. Some (n, r)) (after_end base))
read_whole base (b ∷ bs) n l =
    ⊎_elim
    (λ (t : is_digit base b ≡ true).
    ⊎_elim
    (λ (k : greatest < radix base * n + digit_of b).
    let g = grows base (digits_of base bs) (radix base * n + digit_of b) in
    read_great base n b bs t (grown_none base n b k)
    ∙ sym (same base b bs n t ∙ cond-false (nat_le (from base (radix base * n + digit_of b) (digits_of base bs)) greatest) _ _ (lt-leb _ _ (omega (arith, g, k)))))
    (λ (k : radix base * n + digit_of b ≤ greatest).
    read_more base n b (radix base * n + digit_of b) bs t (grown_some base n b k)
    ∙ read_whole base bs (radix base * n + digit_of b) k
    ∙ sym (same base b bs n t))
    (cases_lt greatest (radix base * n + digit_of b)))
    (λ (t : is_digit base b ≡ false).
    read_stop base n b bs t
    ∙ sym (ap (λ ds. cond (nat_le (from base n ds) greatest) (Some (from base n ds, after_digits base (b ∷ bs))) None) (digits_stop base b bs t)
    ∙ cond-true (nat_le n greatest) _ _ (le-leb _ _ l) ∙ ap (λ r. Some (n, r)) (after_stop base b bs t)))
    (cases_Bool (is_digit base b))

-- what was read, in one

read : (base : Base) (text : List ℕ) → digits_read base 0 text ≡ cond (nat_le (digits_value base (digits_of base text)) greatest) (Some (digits_value base (digits_of base text), after_digits base text)) None
unfolding digits_value
read base text = read_whole base text 0 (omega arith)

record Parts (base : Base) (text : List ℕ) (v : ℕ) (rest : List ℕ) : Type 0 where
  value : digits_value base (digits_of base text) ≡ v
  after : after_digits base text ≡ rest
  small : v ≤ greatest

read_none : (base : Base) (text : List ℕ) → digits_read base 0 text ≡ None → greatest < digits_value base (digits_of base text)
read_none base text e =
    ⊎_elim
    (λ (k : greatest < digits_value base (digits_of base text)). k)
    (λ (k : digits_value base (digits_of base text) ≤ greatest).
    absurd (let h = sym (cond-true (nat_le (digits_value base (digits_of base text)) greatest) (Some (digits_value base (digits_of base text), after_digits base text)) None (le-leb _ _ k)) ∙ sym (read base text) ∙ e in cc))
    (cases_lt greatest (digits_value base (digits_of base text)))

pairs : (p q : ℕ × List ℕ) → Some p ≡ Some q → (p.0 ≡ q.0) × (p.1 ≡ q.1)
pairs p q e = let h = same_Some p q e in (ap (λ (r : ℕ × List ℕ). r.0) h, ap (λ (r : ℕ × List ℕ). r.1) h)

read_some : (base : Base) (text : List ℕ) (v : ℕ) (rest : List ℕ) → digits_read base 0 text ≡ Some (v, rest) → Parts base text v rest
read_some base text v rest e =
    ⊎_elim
    (λ (k : greatest < digits_value base (digits_of base text)).
    absurd (let h = sym (cond-false (nat_le (digits_value base (digits_of base text)) greatest) (Some (digits_value base (digits_of base text), after_digits base text)) None (lt-leb _ _ k)) ∙ sym (read base text) ∙ e in cc))
    (λ (k : digits_value base (digits_of base text) ≤ greatest).
    let front : ℕ × List ℕ = (digits_value base (digits_of base text), after_digits base text) in
    let whole : ℕ × List ℕ = (v, rest) in
    let h = pairs front whole (sym (cond-true (nat_le (digits_value base (digits_of base text)) greatest) (Some (digits_value base (digits_of base text), after_digits base text)) None (le-leb _ _ k)) ∙ sym (read base text) ∙ e) in
    record { value = h.0; after = h.1; small = subst (λ n. n ≤ greatest) h.0 k })
    (cases_lt greatest (digits_value base (digits_of base text)))

and_false : (a : Bool) → (a && false) ≡ false
and_false true = refl
and_false false = refl

pub constant_none : (base : Base) (text : List ℕ) → begins_with_digit base text ≡ false → constant_of base text ≡ None
unfolding constant_of
constant_none base text e = cond-false (begins_with_digit base text && nat_le (digits_value base (digits_of base text)) greatest) _ _ (ap (λ b. b && nat_le (digits_value base (digits_of base text)) greatest) e)

pub constant_great : (base : Base) (text : List ℕ) → digits_read base 0 text ≡ None → constant_of base text ≡ None
unfolding constant_of
constant_great base text e =
    cond-false (begins_with_digit base text && nat_le (digits_value base (digits_of base text)) greatest) _ _
    (ap (λ b. begins_with_digit base text && b) (lt-leb _ _ (read_none base text e)) ∙ and_false (begins_with_digit base text))

pub constant_some : (base : Base) (text : List ℕ) (v : ℕ) (rest : List ℕ) → begins_with_digit base text ≡ true → digits_read base 0 text ≡ Some (v, rest) → suffixed base v rest ≡ constant_of base text
unfolding constant_of
constant_some base text v rest b e =
    let p = read_some base text v rest e in
    ap (λ n. suffixed base n rest) (sym p.value) ∙ ap (suffixed base (digits_value base (digits_of base text))) (sym p.after)
    ∙ sym (cond-true (begins_with_digit base text && nat_le (digits_value base (digits_of base text)) greatest) _ _
    (and_from _ _ b (le-leb _ _ (subst (λ n. n ≤ greatest) (sym p.value) p.small))))

pub escape_none : (base : Base) (text : List ℕ) → begins_with_digit base text ≡ false → numeric_escape base text ≡ None
unfolding numeric_escape
escape_none base text e = cond-false (begins_with_digit base text && nat_le (digits_value base (digits_of base text)) 255) _ _ (ap (λ b. b && nat_le (digits_value base (digits_of base text)) 255) e)

escape_over : (base : Base) (text : List ℕ) → 255 < digits_value base (digits_of base text) → numeric_escape base text ≡ None
unfolding numeric_escape
escape_over base text l =
    cond-false (begins_with_digit base text && nat_le (digits_value base (digits_of base text)) 255) _ _
    (ap (λ b. begins_with_digit base text && b) (lt-leb _ _ l) ∙ and_false (begins_with_digit base text))

pub escape_great : (base : Base) (text : List ℕ) → digits_read base 0 text ≡ None → numeric_escape base text ≡ None
escape_great base text e = let h = read_none base text e in escape_over base text (omega (arith, h))

pub escape_large : (base : Base) (text : List ℕ) (v : ℕ) (rest : List ℕ) → digits_read base 0 text ≡ Some (v, rest) → 255 < v → numeric_escape base text ≡ None
escape_large base text v rest e l = let p = read_some base text v rest e in escape_over base text (subst (λ n. 255 < n) (sym p.value) l)

pub escape_some : (base : Base) (text : List ℕ) (v : ℕ) (rest : List ℕ) → begins_with_digit base text ≡ true → digits_read base 0 text ≡ Some (v, rest) → v ≤ 255 → closed v rest ≡ numeric_escape base text
unfolding numeric_escape
escape_some base text v rest b e l =
    let p = read_some base text v rest e in
    ap (λ n. closed n rest) (sym p.value) ∙ ap (closed (digits_value base (digits_of base text))) (sym p.after)
    ∙ sym (cond-true (begins_with_digit base text && nat_le (digits_value base (digits_of base text)) 255) _ _
    (and_from _ _ b (le-leb _ _ (subst (λ n. n ≤ 255) (sym p.value) l))))
