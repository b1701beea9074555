-- Quotients, remainders and powers as the machine has them.
use Rattle.std.proofs.Common.{◌≡◌, zero, suc, ◌/◌, ◌≤◌, ℤ, pos, negsuc, ◌-ℤ◌, ◌*ℤ◌, neg_ℤ, FitsSigned, refl, sym, ap, ◌∙◌, arith, to_z, of_z, int_div, int_rem, subst, Some, None, cond, false, option_and_then}
use Rattle.std.proofs.Math.Nat.{mul-le-mul_left, div-le_self, div-add-mod}
use Rattle.std.specs.Ordering.{int_eq}
use Rattle.cx_tree.specs.declared.types.Platform.{Platform}
use Rattle.cx_tree.specs.declared.types.IntType.{IntType}
use Rattle.cx_tree.specs.Arithmetic.{fit, divide, remainder}
use Rattle.std.proofs.lemmas.Int.{ints, quot-rem, quot_is}
use Rattle.std.specs.Int.{w128}

pub rest_is : (a b : ℤ) → int_rem a b ≡ a -ℤ (int_div a b *ℤ b)
rest_is a b = let e = quot-rem a b in omega (arith, ints)

pub over_minus_one : (a : ℤ) → int_div a (negsuc 0) ≡ neg_ℤ a
over_minus_one (pos a) = omega (arith, ints)
over_minus_one (negsuc a) = omega (arith, ints)

pub complement_is : (a : ℤ) → FitsSigned w128 a → to_z w128 (of_z w128 (negsuc 0 -ℤ a)) ≡ neg_ℤ a -ℤ pos 1
complement_is a f = omega (arith, ints)

quotient_fits : (a b : ℤ) → FitsSigned w128 a → (b ≡ pos 0 → ⊥) → (b ≡ negsuc 0 → ⊥) → FitsSigned w128 (int_div a b)
quotient_fits (pos a) (pos b) f no_zero one = let s = div-le_self a b in omega (arith, ints)
quotient_fits (pos a) (negsuc b) f no_zero one = let s = div-le_self a (suc b) in omega (arith, ints)
quotient_fits (negsuc a) (pos b) f no_zero one = let s = div-le_self (suc a) b in omega (arith, ints)
quotient_fits (negsuc a) (negsuc zero) f no_zero one = absurd (one refl)
quotient_fits (negsuc a) (negsuc (suc b)) f no_zero one =
    let q = suc a / suc (suc b) in
    let two : 2 ≤ suc (suc b) = omega arith in
    let l = mul-le-mul_left q two in
    let d = div-add-mod (suc a) (suc (suc b)) in
    omega (arith, ints)

pub divide_minus_one : (t : IntType) (p : Platform) (a b : ℤ) → b ≡ negsuc 0 → fit t p (neg_ℤ a) ≡ divide t p a b
divide_minus_one t p a b e =
    subst (λ (x : ℤ). fit t p (neg_ℤ a) ≡ divide t p a x) (sym e) (ap (fit t p) (sym (over_minus_one a)))

not_zero : (b : ℤ) → (b ≡ pos 0 → ⊥) → int_eq b (pos 0) ≡ false
not_zero b no_zero = grind (arith, ints)

pub divide_other : (t : IntType) (p : Platform) (a b : ℤ) → FitsSigned w128 a → FitsSigned w128 b → (b ≡ pos 0 → ⊥)
    → (b ≡ negsuc 0 → ⊥)
    → fit t p (to_z w128 (of_z w128 (int_div (to_z w128 (of_z w128 a)) (to_z w128 (of_z w128 b))))) ≡ divide t p a b
divide_other t p a b f g no_zero one =
    ap (fit t p) (quot_is w128 a b f g (quotient_fits a b f no_zero one))
    ∙ ap (λ test. cond test None (fit t p (int_div a b))) (sym (not_zero b no_zero))

pub remainder_where : (t : IntType) (p : Platform) (a b q : ℤ) → Some q ≡ divide t p a b
    → fit t p (a -ℤ (int_div a b *ℤ b)) ≡ remainder t p a b
remainder_where t p a b q e = ap (option_and_then (λ (_ : ℤ). fit t p (a -ℤ (int_div a b *ℤ b)))) e
