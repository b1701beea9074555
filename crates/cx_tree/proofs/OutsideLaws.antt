-- A result outside of `i128` fits as its low 128 bits say.
use Rattle.std.proofs.Common.{◌≡◌, ℕ, ◌+◌, ◌-◌, ◌*◌, ◌/◌, ◌%◌, ◌^◌, ◌<◌, ◌≤◌, ℤ, pos, negsuc, ◌+ℤ◌, ◌-ℤ◌, ◌*ℤ◌, neg_ℤ, FitsSigned, refl, sym, ap, ◌∙◌, arith, Some, None, false, cond, ◌&&◌, int_le, ◌≤ℤ◌}
use Rattle.std.specs.Ordering.{int_eq}
use Rattle.std.proofs.Math.Nat.{mul-le-mul_left}
use Rattle.std.proofs.lemmas.Int.{ints, int_rem_euclid_is, wrapping_add_is, wrapping_sub_is, wrapping_mul_is, wrapping_neg_is}
use Rattle.std.specs.Int.{int_rem_euclid, int_wrap, w128, cast_signed, int_wrapping_add, int_wrapping_sub, int_wrapping_mul, int_wrapping_neg}
use borrow.Author.Differences.{up, down}
use Rattle.cx_tree.specs.declared.types.Platform.{Platform}
use Rattle.cx_tree.specs.declared.types.IntType.{IntType}
use Rattle.cx_tree.specs.declared.types.Kind.{Kind}
use Rattle.cx_tree.specs.declared.types.Kind.TheVariants.{Boolean, Signed, Unsigned}
use Rattle.cx_tree.specs.declared.types.Width.{Width}
use Rattle.cx_tree.specs.declared.types.Width.TheVariants.{Bits8, Bits16, Bits32, Bits64}
use Rattle.cx_tree.specs.IntegerTypes.{kind, width, least_of, greatest_of}
use Rattle.cx_tree.specs.ConversionRules.{low_bits}
use Rattle.cx_tree.specs.Arithmetic.{fit, fit_in}
use Rattle.cx_tree.specs.Shapes.Outside.{fit_outside, fit_outside_of}

-- numbers that differ by a multiple of n have the same remainder
same_remainder : (n : ℕ) (a b : ℤ) (j k : ℕ) → 0 < n → a +ℤ pos (j * n) ≡ b +ℤ pos (k * n)
    → int_rem_euclid a (pos n) ≡ int_rem_euclid b (pos n)
same_remainder n a b j k some e =
    let t = down a + down b in
    let far : t * 1 ≤ t * n = mul-le-mul_left t some in
    let m = up a + (j + t) * n - down a in
    int_rem_euclid_is a (pos n) n (j + t) m some refl (omega (arith, ints))
    ∙ sym (int_rem_euclid_is b (pos n) n (k + t) m some refl (omega (arith, ints)))

-- the signed value of 128 bits differs from them by a multiple of 2 ^ 128
read : (n : ℕ) → n < 2 ^ 128 → (j : ℕ) × (cast_signed w128 n +ℤ pos (j * 2 ^ 128) ≡ pos n)
read n h = (n / 2 ^ 127, grind (arith, ints))

-- what is left of z in 128 bits differs from it by a multiple of 2 ^ 128
left : (z : ℤ) → (j : ℕ) × (k : ℕ) × (int_wrap w128 z +ℤ pos (j * 2 ^ 128) ≡ z +ℤ pos (k * 2 ^ 128))
unfolding int_wrap
left (pos a) =
    let r = read (a % 2 ^ 128) (omega arith) in
    let e = r.1 in
    (r.0 + a / 2 ^ 128, 0, omega (arith, ints))
left (negsuc a) =
    let r = read (2 ^ 128 - 1 - a % 2 ^ 128) (omega arith) in
    let e = r.1 in
    (r.0, a / 2 ^ 128 + 1, omega (arith, ints))

low_bits_wrapped : (w : Width) (z : ℤ) → low_bits w (int_wrap w128 z) ≡ low_bits w z
low_bits_wrapped Bits8 z =
    let l = left z in
    let e = l.2 in
    same_remainder 256 (int_wrap w128 z) z (l.0 * 2 ^ 120) (l.1 * 2 ^ 120) (omega arith) (omega (arith, ints))
low_bits_wrapped Bits16 z =
    let l = left z in
    let e = l.2 in
    same_remainder 65536 (int_wrap w128 z) z (l.0 * 2 ^ 112) (l.1 * 2 ^ 112) (omega arith) (omega (arith, ints))
low_bits_wrapped Bits32 z =
    let l = left z in
    let e = l.2 in
    same_remainder 4294967296 (int_wrap w128 z) z (l.0 * 2 ^ 96) (l.1 * 2 ^ 96) (omega arith) (omega (arith, ints))
low_bits_wrapped Bits64 z =
    let l = left z in
    let e = l.2 in
    same_remainder 18446744073709551616 (int_wrap w128 z) z (l.0 * 2 ^ 64) (l.1 * 2 ^ 64) (omega arith) (omega (arith, ints))

zero_fits : (z : ℤ) → z ≡ pos 0 → FitsSigned w128 z
zero_fits z e = omega (arith, ints)

not_zero : (z : ℤ) → (FitsSigned w128 z → ⊥) → int_eq z (pos 0) ≡ false
not_zero z out = grind (arith, ints, zero_fits)

within_fits : (w : Width) (z : ℤ) → least_of Signed w ≤ℤ z → z ≤ℤ greatest_of Signed w → FitsSigned w128 z
within_fits Bits8 z a b = omega (arith, ints)
within_fits Bits16 z a b = omega (arith, ints)
within_fits Bits32 z a b = omega (arith, ints)
within_fits Bits64 z a b = omega (arith, ints)

signed_out : (w : Width) (z : ℤ) → (FitsSigned w128 z → ⊥)
    → (int_le (least_of Signed w) z && int_le z (greatest_of Signed w)) ≡ false
signed_out w z out = grind (arith, ints, within_fits)

outside_of : (k : Kind) (w : Width) (z : ℤ) → (FitsSigned w128 z → ⊥) → fit_outside_of k w (int_wrap w128 z) ≡ fit_in k w z
outside_of Boolean w z out = ap (λ test. Some (cond test (pos 0) (pos 1))) (sym (not_zero z out))
outside_of Unsigned w z out = ap Some (low_bits_wrapped w z)
outside_of Signed Bits8 z out = ap (λ test. cond test (Some z) None) (sym (signed_out Bits8 z out))
outside_of Signed Bits16 z out = ap (λ test. cond test (Some z) None) (sym (signed_out Bits16 z out))
outside_of Signed Bits32 z out = ap (λ test. cond test (Some z) None) (sym (signed_out Bits32 z out))
outside_of Signed Bits64 z out = ap (λ test. cond test (Some z) None) (sym (signed_out Bits64 z out))

pub outside : (t : IntType) (p : Platform) (z : ℤ) → (FitsSigned w128 z → ⊥) → fit_outside t p (int_wrap w128 z) ≡ fit t p z
unfolding fit_outside
outside t p z out = outside_of (kind t) (width t p) z out

pub add_outside : (t : IntType) (p : Platform) (a b : ℤ) → FitsSigned w128 a → FitsSigned w128 b
    → (FitsSigned w128 (a +ℤ b) → ⊥) → fit_outside t p (int_wrapping_add w128 a b) ≡ fit t p (a +ℤ b)
add_outside t p a b f g out = ap (fit_outside t p) (wrapping_add_is w128 a b f g) ∙ outside t p (a +ℤ b) out

pub subtract_outside : (t : IntType) (p : Platform) (a b : ℤ) → FitsSigned w128 a → FitsSigned w128 b
    → (FitsSigned w128 (a -ℤ b) → ⊥) → fit_outside t p (int_wrapping_sub w128 a b) ≡ fit t p (a -ℤ b)
subtract_outside t p a b f g out = ap (fit_outside t p) (wrapping_sub_is w128 a b f g) ∙ outside t p (a -ℤ b) out

pub multiply_outside : (t : IntType) (p : Platform) (a b : ℤ) → FitsSigned w128 a → FitsSigned w128 b
    → (FitsSigned w128 (a *ℤ b) → ⊥) → fit_outside t p (int_wrapping_mul w128 a b) ≡ fit t p (a *ℤ b)
multiply_outside t p a b f g out = ap (fit_outside t p) (wrapping_mul_is w128 a b f g) ∙ outside t p (a *ℤ b) out

pub negate_outside : (t : IntType) (p : Platform) (a : ℤ) → FitsSigned w128 a → (FitsSigned w128 (neg_ℤ a) → ⊥)
    → fit_outside t p (int_wrapping_neg w128 a) ≡ fit t p (neg_ℤ a)
negate_outside t p a f out = ap (fit_outside t p) (wrapping_neg_is w128 a f) ∙ outside t p (neg_ℤ a) out
