-- Arithmetic on bits is that on the numbers that they stand for.
use Rattle.std.proofs.Common.{◌≡◌, ◌≢◌, ℕ, zero, suc, ◌+◌, ◌-◌, ◌*◌, ◌/◌, ◌%◌, ◌^◌, ◌<◌, ◌≤◌, ℤ, pos, negsuc, neg_ℤ, ◌+ℤ◌, ◌-ℤ◌, ◌*ℤ◌, Bool, true, false, refl, sym, ap, ◌∙◌, subst, cond, arith, to_z, of_z, int_lt, int_le, int_div, int_rem, unsigned_abs, ⊎_elim, not, ◌&&◌, nat_le, ltb}
use Rattle.std.specs.Int.{cast_signed, cast_unsigned, int_rem_euclid, int_div_euclid, int_wrap, w8, w64}
use Rattle.std.proofs.lemmas.Int.{ints, of_z-to_z, to_z_pos, wrapping_add-bits, wrapping_sub-bits, wrapping_mul-bits, int_wrap-mul_left, rem_below}
use Rattle.std.proofs.lemmas.Nat.{div_below, pow-add, pow_pos, mod_below}
use Rattle.std.proofs.lemmas.Bool.{cases_lt, cases_Bool, le-ltb, lt-ltb, leb-true, leb-false, le-leb, and_parts}
use Rattle.std.proofs.lemmas.Bool.{cond-true, cond-false}
use Rattle.std.proofs.Math.Nat.{mod-eq_of_lt, mul-add-mod_self_left, div-le_self}
use Rattle.cx_condition.specs.Shapes.Signs.{has_sign, is_below_zero}
use Rattle.cx_condition.specs.Values.{bits_of, number_of, shifted}

bits_below : (z : ℤ) → bits_of z < 2 ^ 64
unfolding bits_of
bits_below (pos n) = omega arith
bits_below (negsuc n) = omega arith

-- two numbers below 2 ^ 64 that stand for one signed number are the same
same_bits : (m n : ℕ) → m < 2 ^ 64 → n < 2 ^ 64 → cast_signed w64 m ≡ cast_signed w64 n → m ≡ n
same_bits m n p q e = sym (of_z-to_z w64 m p) ∙ ap (cast_unsigned w64) e ∙ of_z-to_z w64 n q

wrapped : (m : ℕ) (z : ℤ) → m < 2 ^ 64 → cast_signed w64 m ≡ int_wrap w64 z → m ≡ bits_of z
unfolding bits_of int_wrap
wrapped m z p e = same_bits m (bits_of z) p (bits_below z) e

pub sums : (u : Bool) (x y : ℕ) → x < 2 ^ 64 → y < 2 ^ 64 → (x + y) % 2 ^ 64 ≡ bits_of (number_of u x +ℤ number_of u y)
unfolding bits_of number_of
sums true x y p q = refl
sums false x y p q = wrapped ((x + y) % 2 ^ 64) (cast_signed w64 x +ℤ cast_signed w64 y) (omega arith) (wrapping_add-bits w64 x y p q)

pub products : (u : Bool) (x y : ℕ) → x < 2 ^ 64 → y < 2 ^ 64 → (x * y) % 2 ^ 64 ≡ bits_of (number_of u x *ℤ number_of u y)
unfolding bits_of number_of
products true x y p q = refl
products false x y p q = wrapped ((x * y) % 2 ^ 64) (cast_signed w64 x *ℤ cast_signed w64 y) (omega arith) (wrapping_mul-bits w64 x y p q)

minus_more : (x n : ℕ) → x < suc n → n < 2 ^ 64 → pos x -ℤ pos (suc n) ≡ negsuc (n - x)
minus_more x n l k = omega (arith, ints)

minus_less : (x y : ℕ) → y ≤ x → pos x -ℤ pos y ≡ pos (x - y)
minus_less x y l = omega (arith, ints)

unsigned_differences : (x y : ℕ) → x < 2 ^ 64 → y < 2 ^ 64 → (x + (2 ^ 64 - y)) % 2 ^ 64 ≡ bits_of (pos x -ℤ pos y)
unfolding bits_of
unsigned_differences x zero p q = subst (λ z. (x + (2 ^ 64 - 0)) % 2 ^ 64 ≡ unsigned_abs (int_rem_euclid z (pos (2 ^ 64)))) (sym (minus_less x 0 (omega arith))) (omega arith)
unsigned_differences x (suc n) p q =
    ⊎_elim
    (λ (l : x < suc n). subst (λ z. (x + (2 ^ 64 - suc n)) % 2 ^ 64 ≡ unsigned_abs (int_rem_euclid z (pos (2 ^ 64)))) (sym (minus_more x n l (omega arith))) (omega arith))
    (λ (l : suc n ≤ x). subst (λ z. (x + (2 ^ 64 - suc n)) % 2 ^ 64 ≡ unsigned_abs (int_rem_euclid z (pos (2 ^ 64)))) (sym (minus_less x (suc n) l)) (omega arith))
    (cases_lt x (suc n))

pub differences : (u : Bool) (x y : ℕ) → x < 2 ^ 64 → y < 2 ^ 64 → (x + (2 ^ 64 - y)) % 2 ^ 64 ≡ bits_of (number_of u x -ℤ number_of u y)
unfolding bits_of number_of
differences true x y p q = unsigned_differences x y p q
differences false x y p q = wrapped ((x + (2 ^ 64 - y)) % 2 ^ 64) (cast_signed w64 x -ℤ cast_signed w64 y) (omega arith) (wrapping_sub-bits w64 x y p q)

zero_minus : (z : ℤ) → pos 0 -ℤ z ≡ neg_ℤ z
zero_minus (pos zero) = refl
zero_minus (pos (suc n)) = omega (arith, ints)
zero_minus (negsuc n) = omega (arith, ints)

zero_is : (u : Bool) → number_of u 0 ≡ pos 0
unfolding number_of
zero_is true = refl
zero_is false = refl

pub negatives : (u : Bool) (x : ℕ) → x < 2 ^ 64 → (0 + (2 ^ 64 - x)) % 2 ^ 64 ≡ bits_of (neg_ℤ (number_of u x))
negatives u x p = differences u 0 x (omega arith) p ∙ ap bits_of (ap (λ z. z -ℤ number_of u x) (zero_is u) ∙ zero_minus (number_of u x))

pub signed_low : (x : ℕ) → x < 2 ^ 63 → number_of false x ≡ pos x
unfolding number_of
signed_low x l = to_z_pos w64 x l

pub signed_high : (x : ℕ) → x < 2 ^ 64 → 2 ^ 63 ≤ x → number_of false x ≡ negsuc (2 ^ 64 - 1 - x)
unfolding number_of
signed_high x p l = sel_high (ltb x (2 ^ 63)) (le-ltb x (2 ^ 63) l) ∙ ap negsuc (omega arith)
  where
    sel_high : (b : Bool) → b ≡ false → cond b (pos x) (negsuc (2 ^ 64 - suc x)) ≡ negsuc (2 ^ 64 - suc x)
    sel_high b e = cond-false b _ _ e

-- the ways to read bits
pub ways : (P : ℤ → Type 0) (u : Bool) (x : ℕ) → x < 2 ^ 64 → P (pos x) → (2 ^ 63 ≤ x → u ≡ false → P (negsuc (2 ^ 64 - 1 - x))) → P (number_of u x)
unfolding number_of
ways P true x p low high = low
ways P false x p low high =
    ⊎_elim
    (λ (l : x < 2 ^ 63). subst P (sym (signed_low x l)) low)
    (λ (l : 2 ^ 63 ≤ x). subst P (sym (signed_high x p l)) (high l refl))
    (cases_lt x (2 ^ 63))

minus_one_less : (x : ℕ) → negsuc 0 -ℤ pos x ≡ negsuc x
minus_one_less x = omega (arith, ints)

minus_one_more : (n : ℕ) → negsuc 0 -ℤ negsuc n ≡ pos n
minus_one_more n = omega (arith, ints)

pub bits_pos : (n : ℕ) → n < 2 ^ 64 → bits_of (pos n) ≡ n
unfolding bits_of
bits_pos n p = omega arith

pub bits_negsuc : (n : ℕ) → n < 2 ^ 64 → bits_of (negsuc n) ≡ 2 ^ 64 - 1 - n
unfolding bits_of
bits_negsuc n p = omega arith

pub complements : (u : Bool) (x : ℕ) → x < 2 ^ 64 → 2 ^ 64 - 1 - x ≡ bits_of (negsuc 0 -ℤ number_of u x)
complements u x p =
    ways (λ z. 2 ^ 64 - 1 - x ≡ bits_of (negsuc 0 -ℤ z)) u x p
    (rw (minus_one_less x) (sym (bits_negsuc x p)))
    (λ l e. rw (minus_one_more (2 ^ 64 - 1 - x)) (sym (bits_pos (2 ^ 64 - 1 - x) (omega arith))))

-- quotients

abs_neg : (n : ℕ) → unsigned_abs (neg_ℤ (pos n)) ≡ n
abs_neg zero = refl
abs_neg (suc n) = refl

-- shifts
great_power : (n : ℕ) → 64 ≤ n → 2 ^ n ≡ 2 ^ 64 * 2 ^ (n - 64)
great_power n l = ap (λ k. 2 ^ k) (omega arith) ∙ pow-add 2 64 (n - 64)

onto : (x k : ℕ) → x < 2 ^ 64 → int_wrap w64 (cast_signed w64 x *ℤ pos k) ≡ int_wrap w64 (pos x *ℤ pos k)
unfolding int_wrap
onto x k p = ap (λ z. int_wrap w64 (z *ℤ pos k)) (sym (ap (cast_signed w64) (mod-eq_of_lt p))) ∙ int_wrap-mul_left w64 (pos x) (pos k)

pub left_shifts : (u : Bool) (x n : ℕ) → x < 2 ^ 64 → (x * 2 ^ n) % 2 ^ 64 ≡ bits_of (number_of u x *ℤ pos (2 ^ n))
unfolding number_of bits_of int_wrap
left_shifts true x n p = refl
left_shifts false x n p = wrapped ((x * 2 ^ n) % 2 ^ 64) (cast_signed w64 x *ℤ pos (2 ^ n)) (omega arith) (sym (onto x (2 ^ n) p))

no_bits : (x k : ℕ) → (x * (2 ^ 64 * k)) % 2 ^ 64 ≡ 0
no_bits x k = ap (λ m. m % 2 ^ 64) (regroup x (2 ^ 64) k) ∙ mul-add-mod_self_left (2 ^ 64) (x * k) 0
  where
    regroup : (x m k : ℕ) → x * (m * k) ≡ m * (x * k) + 0
    regroup x m k = omega arith

pub zero_shift : (u : Bool) (x n : ℕ) → x < 2 ^ 64 → 64 ≤ n → 0 ≡ bits_of (number_of u x *ℤ pos (2 ^ n))
zero_shift u x n p l = sym (ap (λ k. (x * k) % 2 ^ 64) (great_power n l) ∙ no_bits x (2 ^ (n - 64))) ∙ left_shifts u x n p

pub nothing_left : (x n : ℕ) → x < 2 ^ 64 → 64 ≤ n → 0 ≡ x / 2 ^ n
nothing_left x n p l =
    let g = great_power n l in
    let k = pow_pos (n - 64) in
    let m : x < 1 * 2 ^ n = omega (arith, g, k) in
    let d = div_below x (2 ^ n) 1 (pow_pos n) m in
    omega (arith, d)

low_number : (u : Bool) (x : ℕ) → has_sign u x ≡ false → number_of u x ≡ pos x
unfolding number_of
low_number true x e = refl
low_number false x e = signed_low x (leb-false _ _ e)

high_number : (u : Bool) (x : ℕ) → x < 2 ^ 64 → has_sign u x ≡ true → number_of u x ≡ negsuc (2 ^ 64 - 1 - x)
high_number true x p e = absurd cc
high_number false x p e = signed_high x p (leb-true _ _ e)

whole : (z : ℤ) → int_div_euclid z (pos 1) ≡ z *ℤ pos 1
whole (pos n) = ap pos (omega arith)
whole (negsuc n) = ap negsuc (by_one n) ∙ ap (λ m. neg_ℤ (pos m)) (times_one n)
  where
    by_one : (n : ℕ) → n / 1 ≡ n
    by_one n = omega arith

    times_one : (n : ℕ) → suc n ≡ suc n * 1
    times_one n = omega arith

shifted_down : (z : ℤ) (n : ℕ) → int_div_euclid z (pos (2 ^ n)) ≡ shifted z (neg_ℤ (pos n))
unfolding shifted
shifted_down z zero = whole z
shifted_down z (suc n) = refl

pub left_shift : (u : Bool) (x n : ℕ) → bits_of (number_of u x *ℤ pos (2 ^ n)) ≡ bits_of (shifted (number_of u x) (pos n))
unfolding shifted
left_shift u x n = refl

pub right_low : (u : Bool) (x n : ℕ) → x < 2 ^ 64 → has_sign u x ≡ false → x / 2 ^ n ≡ bits_of (shifted (number_of u x) (neg_ℤ (pos n)))
right_low u x n p e = let h = div-le_self x (2 ^ n) in
    sym (bits_pos (x / 2 ^ n) (omega arith)) ∙ ap bits_of (ap (λ z. int_div_euclid z (pos (2 ^ n))) (sym (low_number u x e)) ∙ shifted_down (number_of u x) n)

pub right_high : (u : Bool) (x n : ℕ) → x < 2 ^ 64 → has_sign u x ≡ true → 2 ^ 64 - 1 - (2 ^ 64 - 1 - x) / 2 ^ n ≡ bits_of (shifted (number_of u x) (neg_ℤ (pos n)))
right_high u x n p e = let h = div-le_self (2 ^ 64 - 1 - x) (2 ^ n) in
    sym (bits_negsuc ((2 ^ 64 - 1 - x) / 2 ^ n) (omega arith)) ∙ ap bits_of (ap (λ z. int_div_euclid z (pos (2 ^ n))) (sym (high_number u x p e)) ∙ shifted_down (number_of u x) n)

-- the count of a shift
pub count_low : (u : Bool) (y : ℕ) → has_sign u y ≡ false → pos y ≡ number_of u y
count_low u y e = sym (low_number u y e)

turned : (y : ℕ) → y < 2 ^ 64 → 2 ^ 63 ≤ y → (0 + (2 ^ 64 - y)) % 2 ^ 64 ≡ suc (2 ^ 64 - 1 - y)
turned y p l = omega arith

pub count_high : (u : Bool) (y : ℕ) → y < 2 ^ 64 → has_sign u y ≡ true → neg_ℤ (pos ((0 + (2 ^ 64 - y)) % 2 ^ 64)) ≡ number_of u y
count_high u y p e = ap (λ n. neg_ℤ (pos n)) (turned y p (leb-true _ _ (and_parts _ _ e).1)) ∙ sym (high_number u y p e)

pub count_turned : (u : Bool) (y : ℕ) → y < 2 ^ 64 → has_sign u y ≡ true → pos ((0 + (2 ^ 64 - y)) % 2 ^ 64) ≡ neg_ℤ (number_of u y)
count_turned u y p e = ap pos (turned y p (leb-true _ _ (and_parts _ _ e).1)) ∙ ap neg_ℤ (sym (high_number u y p e))

-- signs
pub sign_of : (u : Bool) (x : ℕ) → x < 2 ^ 64 → has_sign u x ≡ is_below_zero (number_of u x)
sign_of u x p =
    ⊎_elim
    (λ (t : has_sign u x ≡ true). t ∙ ap is_below_zero (sym (high_number u x p t)))
    (λ (t : has_sign u x ≡ false). t ∙ ap is_below_zero (sym (low_number u x t)))
    (cases_Bool (has_sign u x))

pub magnitude_low : (u : Bool) (x : ℕ) → has_sign u x ≡ false → x ≡ unsigned_abs (number_of u x)
magnitude_low u x e = ap unsigned_abs (sym (low_number u x e))

pub magnitude_high : (u : Bool) (x : ℕ) → x < 2 ^ 64 → has_sign u x ≡ true → (0 + (2 ^ 64 - x)) % 2 ^ 64 ≡ unsigned_abs (number_of u x)
magnitude_high u x p e = turned x p (leb-true _ _ (and_parts _ _ e).1) ∙ ap unsigned_abs (sym (high_number u x p e))

-- quotients
div_same : (a b : ℤ) → is_below_zero a ≡ is_below_zero b → pos (unsigned_abs a / unsigned_abs b) ≡ int_div a b
div_same (pos a) (pos b) e = refl
div_same (pos a) (negsuc b) e = absurd cc
div_same (negsuc a) (pos b) e = absurd cc
div_same (negsuc a) (negsuc b) e = refl

div_other : (a b : ℤ) → is_below_zero a ≢ is_below_zero b → neg_ℤ (pos (unsigned_abs a / unsigned_abs b)) ≡ int_div a b
div_other (pos a) (pos b) e = absurd (e refl)
div_other (pos a) (negsuc b) e = refl
div_other (negsuc a) (pos b) e = refl
div_other (negsuc a) (negsuc b) e = absurd (e refl)

rem_low : (a b : ℤ) → is_below_zero a ≡ false → pos (unsigned_abs a % unsigned_abs b) ≡ int_rem a b
rem_low (pos a) b e = refl
rem_low (negsuc a) b e = absurd cc

rem_high : (a b : ℤ) → is_below_zero a ≡ true → neg_ℤ (pos (unsigned_abs a % unsigned_abs b)) ≡ int_rem a b
rem_high (pos a) b e = absurd cc
rem_high (negsuc a) b e = refl

pub quotient_same : (a b : ℤ) (n : ℕ) → n < 2 ^ 64 → is_below_zero a ≡ is_below_zero b → n ≡ unsigned_abs a / unsigned_abs b → n ≡ bits_of (int_div a b)
quotient_same a b n p e k = sym (bits_pos n p) ∙ ap bits_of (ap pos k ∙ div_same a b e)

negated : (n : ℕ) → n < 2 ^ 64 → (0 + (2 ^ 64 - n)) % 2 ^ 64 ≡ bits_of (neg_ℤ (pos n))
unfolding number_of
negated n p = negatives true n p

pub quotient_other : (a b : ℤ) (n : ℕ) → n < 2 ^ 64 → is_below_zero a ≢ is_below_zero b → n ≡ unsigned_abs a / unsigned_abs b → (0 + (2 ^ 64 - n)) % 2 ^ 64 ≡ bits_of (int_div a b)
quotient_other a b n p e k = negated n p ∙ ap bits_of (ap (λ m. neg_ℤ (pos m)) k ∙ div_other a b e)

pub remainder_low : (a b : ℤ) (n : ℕ) → n < 2 ^ 64 → is_below_zero a ≡ false → n ≡ unsigned_abs a % unsigned_abs b → n ≡ bits_of (int_rem a b)
remainder_low a b n p e k = sym (bits_pos n p) ∙ ap bits_of (ap pos k ∙ rem_low a b e)

pub remainder_high : (a b : ℤ) (n : ℕ) → n < 2 ^ 64 → is_below_zero a ≡ true → n ≡ unsigned_abs a % unsigned_abs b → (0 + (2 ^ 64 - n)) % 2 ^ 64 ≡ bits_of (int_rem a b)
remainder_high a b n p e k = negated n p ∙ ap bits_of (ap (λ m. neg_ℤ (pos m)) k ∙ rem_high a b e)

-- the divisor is not 0
pub some_magnitude : (u : Bool) (y : ℕ) → y < 2 ^ 64 → 0 < y → 0 < unsigned_abs (number_of u y)
some_magnitude u y p l = ways (λ z. 0 < unsigned_abs z) u y p l (λ _ _. omega arith)

-- order
pub less_other : (u : Bool) (x y : ℕ) → x < 2 ^ 64 → y < 2 ^ 64 → has_sign u x ≢ has_sign u y → has_sign u x ≡ int_lt (number_of u x) (number_of u y)
less_other u x y p q e =
    ⊎_elim
    (λ (t : has_sign u x ≡ true).
    ⊎_elim
    (λ (s : has_sign u y ≡ true). absurd (e (t ∙ sym s)))
    (λ (s : has_sign u y ≡ false). t ∙ ap (λ z. int_lt z (pos y)) (sym (high_number u x p t)) ∙ ap (int_lt (number_of u x)) (sym (low_number u y s)))
    (cases_Bool (has_sign u y)))
    (λ (t : has_sign u x ≡ false).
    ⊎_elim
    (λ (s : has_sign u y ≡ true). t ∙ ap (int_lt (pos x)) (sym (high_number u y q s)) ∙ ap (λ z. int_lt z (number_of u y)) (sym (low_number u x t)))
    (λ (s : has_sign u y ≡ false). absurd (e (t ∙ sym s)))
    (cases_Bool (has_sign u y)))
    (cases_Bool (has_sign u x))

turned_less : (x y : ℕ) → x < 2 ^ 64 → y < 2 ^ 64 → ltb x y ≡ ltb (2 ^ 64 - 1 - y) (2 ^ 64 - 1 - x)
turned_less x y p q =
    ⊎_elim
    (λ (l : x < y). lt-ltb x y l ∙ sym (lt-ltb (2 ^ 64 - 1 - y) (2 ^ 64 - 1 - x) (omega arith)))
    (λ (l : y ≤ x). le-ltb x y l ∙ sym (le-ltb (2 ^ 64 - 1 - y) (2 ^ 64 - 1 - x) (omega arith)))
    (cases_lt x y)

pub less_same : (u : Bool) (x y : ℕ) → x < 2 ^ 64 → y < 2 ^ 64 → has_sign u x ≡ has_sign u y → ltb x y ≡ int_lt (number_of u x) (number_of u y)
less_same u x y p q e =
    ⊎_elim
    (λ (t : has_sign u x ≡ true). turned_less x y p q ∙ ap (λ z. int_lt z (negsuc (2 ^ 64 - 1 - y))) (sym (high_number u x p t)) ∙ ap (int_lt (number_of u x)) (sym (high_number u y q (sym e ∙ t))))
    (λ (t : has_sign u x ≡ false). ap (λ z. int_lt z (pos y)) (sym (low_number u x t)) ∙ ap (int_lt (number_of u x)) (sym (low_number u y (sym e ∙ t))))
    (cases_Bool (has_sign u x))

-- a byte as a signed char
pub char_low : (b : ℕ) → b < 128 → b ≡ bits_of (cast_signed w8 b)
char_low b l = sym (bits_pos b (omega arith)) ∙ ap bits_of (sym (to_z_pos w8 b l))

char_bits : (b : ℕ) → b < 256 → 128 ≤ b → cast_signed w8 b ≡ negsuc (255 - b)
char_bits b p l = sel_high (ltb b 128) (le-ltb b 128 l) ∙ ap negsuc (omega arith)
  where
    sel_high : (c : Bool) → c ≡ false → cond c (pos b) (negsuc (256 - suc b)) ≡ negsuc (256 - suc b)
    sel_high c e = cond-false c _ _ e

pub char_high : (b : ℕ) → b < 256 → 128 ≤ b → b + 18446744073709551360 ≡ bits_of (cast_signed w8 b)
char_high b p l = from_bits b p l ∙ sym (bits_negsuc (255 - b) (omega arith)) ∙ ap bits_of (sym (char_bits b p l))
  where
    from_bits : (b : ℕ) → b < 256 → 128 ≤ b → b + 18446744073709551360 ≡ 2 ^ 64 - 1 - (255 - b)
    from_bits b p l = omega arith
