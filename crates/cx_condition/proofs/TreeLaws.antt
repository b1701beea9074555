-- Laws of trees and of values.
use Rattle.std.proofs.Common.{◌≡◌, ℕ, zero, suc, ◌+◌, ◌-◌, ◌^◌, ◌<◌, ◌≤◌, ℤ, pos, negsuc, ◌≤ℤ◌, Bool, true, false, ◌||◌, ◌&&◌, ◌==◌, List, [], ◌∷◌, Option, Some, None, refl, sym, ap, ◌∙◌, subst, arith, ⊎_elim}
use Rattle.std.specs.Prelude.{option_and_then, nat_lt}
use Rattle.std.specs.Option.{option_map_or}
use Rattle.std.proofs.lemmas.Int.{ints}
use Rattle.std.proofs.lemmas.Bool.{cases_lt, cond-false}
use Rattle.cx_tokens.specs.declared.token.Token.{Token}
use Rattle.cx_tokens.specs.declared.token.Kind.{Kind}
use Rattle.cx_tokens.specs.declared.token.Kind.TheVariants as kind_is
use Rattle.cx_condition.specs.declared.integer.IntegerConstant.{IntegerConstant}
use Rattle.cx_condition.specs.declared.operator.Operator.TheVariants as operator_is
use Rattle.cx_condition.specs.declared.value.Operand.{Operand}
use Rattle.cx_condition.specs.declared.value.Value.{Value}
use Rattle.cx_condition.specs.declared.part.Part.{Part}
use Rattle.cx_condition.specs.declared.part.Part.TheVariants as part_is
use Rattle.cx_condition.specs.Conditions.{Reads, Tree, IsCondition, a_constant, operand, chain, ends, plain, conditional, constant, evaluated, joined, value}
use Rattle.cx_condition.specs.Constants.{integer_constant}
use Rattle.cx_condition.specs.Parts.{begins_joined_char, is_name, is_prefix, is_prefix_text, number_part, part_of, parts_behind, parts_of}
use Rattle.cx_condition.specs.Values.{binary, bits_of, both, choice, either, number_of, value_of}
use Rattle.cx_condition.proofs.BitLaws.{bits_negsuc, bits_pos, signed_high, signed_low, ways}
use Rattle.cx_condition.proofs.PartLaws.{parts_alone, parts_end}

both_skips : (a b : Operand) → a.bits ≡ Some 0 → both a b ≡ record { is_unsigned = false; bits = Some 0 }
unfolding both
both_skips a b e = ap (λ (x : Option ℕ). both (record { is_unsigned = a.is_unsigned; bits = x }) b) e

not_zero : (n : ℕ) → (suc n == 0) ≡ false
not_zero n = grind arith

either_skips : (a b : Operand) (n : ℕ) → a.bits ≡ Some (suc n) → either a b ≡ record { is_unsigned = false; bits = Some 1 }
unfolding either
either_skips a b n e =
    ap (λ (x : Option ℕ). either (record { is_unsigned = a.is_unsigned; bits = x }) b) e
    ∙ ap (λ (x : Option ℕ). record { is_unsigned = false; bits = x }) (cond-false (suc n == 0) _ _ (not_zero n))

chosen_second : (c a b : Operand) → c.bits ≡ Some 0 → choice c a b ≡ record { is_unsigned = a.is_unsigned || b.is_unsigned; bits = b.bits }
unfolding choice
chosen_second c a b e = ap (λ (x : Option ℕ). choice (record { is_unsigned = c.is_unsigned; bits = x }) a b) e

chosen_first : (c a b : Operand) (n : ℕ) → c.bits ≡ Some (suc n) → choice c a b ≡ record { is_unsigned = a.is_unsigned || b.is_unsigned; bits = a.bits }
unfolding choice
chosen_first c a b n e =
    ap (λ (x : Option ℕ). choice (record { is_unsigned = c.is_unsigned; bits = x }) a b) e
    ∙ ap (λ (x : Option ℕ). record { is_unsigned = a.is_unsigned || b.is_unsigned; bits = x }) (cond-false (suc n == 0) _ _ (not_zero n))

pub and_skips : (a some other : Tree) → (evaluated a).bits ≡ Some 0 → value (joined operator_is.LogicalAnd a some) ≡ value (joined operator_is.LogicalAnd a other)
unfolding evaluated binary
and_skips a some other e = ap value_of (both_skips (evaluated a) (evaluated some) e ∙ sym (both_skips (evaluated a) (evaluated other) e))

pub or_skips : (a some other : Tree) (n : ℕ) → (evaluated a).bits ≡ Some (suc n) → value (joined operator_is.LogicalOr a some) ≡ value (joined operator_is.LogicalOr a other)
unfolding evaluated binary
or_skips a some other n e = ap value_of (either_skips (evaluated a) (evaluated some) n e ∙ sym (either_skips (evaluated a) (evaluated other) n e))

pub second_skips : (c a some other : Tree) (n : ℕ) → (evaluated c).bits ≡ Some (suc n) → (evaluated some).is_unsigned ≡ (evaluated other).is_unsigned → value (conditional c a some) ≡ value (conditional c a other)
unfolding evaluated
second_skips c a some other n e k =
    ap value_of
    (chosen_first (evaluated c) (evaluated a) (evaluated some) n e
    ∙ ap (λ (u : Bool). record { is_unsigned = (evaluated a).is_unsigned || u; bits = (evaluated a).bits }) k
    ∙ sym (chosen_first (evaluated c) (evaluated a) (evaluated other) n e))

pub first_skips : (c some other b : Tree) → (evaluated c).bits ≡ Some 0 → (evaluated some).is_unsigned ≡ (evaluated other).is_unsigned → value (conditional c some b) ≡ value (conditional c other b)
unfolding evaluated
first_skips c some other b e k =
    ap value_of
    (chosen_second (evaluated c) (evaluated some) (evaluated b) e
    ∙ ap (λ (u : Bool). record { is_unsigned = u || (evaluated b).is_unsigned; bits = (evaluated b).bits }) k
    ∙ sym (chosen_second (evaluated c) (evaluated other) (evaluated b) e))

pub common_type : (c a b : Tree) → (evaluated (conditional c a b)).is_unsigned ≡ ((evaluated a).is_unsigned || (evaluated b).is_unsigned)
unfolding evaluated choice
common_type c a b = refl

-- a number alone

no_prefix : (t : Token) → is_prefix t [] ≡ false
unfolding is_prefix begins_joined_char
no_prefix t = and_false (is_name t.kind && is_prefix_text t.text)
  where
    and_false : (b : Bool) → (b && false) ≡ false
    and_false true = refl
    and_false false = refl

one_part : (t : Token) → parts_of (t ∷ []) ≡ part_of t.kind t.text ∷ []
one_part t = parts_alone t [] (no_prefix t) ∙ ap (λ ps. part_of t.kind t.text ∷ ps) (parts_end false)

number_alone : (v : Value) → IsCondition (part_is.Constant v ∷ []) (constant v) []
number_alone v = plain (chain (chain (chain (chain (chain (chain (chain (chain (chain (chain (operand a_constant) ends) ends) ends) ends) ends) ends) ends) ends) ends) ends)

number_is : (t : Token) (c : IntegerConstant) → t.kind ≡ kind_is.Number → integer_constant t.text ≡ Some c → part_of t.kind t.text ≡ part_is.Constant (record { is_unsigned = c.is_unsigned || nat_lt 9223372036854775807 c.value; bits = c.value })
unfolding part_of number_part
number_is t c k e =
    ap (λ kind. part_of kind t.text) k
    ∙ ap (λ o. option_map_or (λ (c : IntegerConstant). part_is.Constant (record { is_unsigned = c.is_unsigned || nat_lt 9223372036854775807 c.value; bits = c.value })) o part_is.Other) e

pub number_constant : (t : Token) (c : IntegerConstant) → t.kind ≡ kind_is.Number → integer_constant t.text ≡ Some c
    → (tree : Tree) × Reads (t ∷ []) tree × (value tree ≡ Some (record { is_unsigned = c.is_unsigned || nat_lt 9223372036854775807 c.value; bits = c.value }))
unfolding evaluated
number_constant t c k e =
    let v : Value = record { is_unsigned = c.is_unsigned || nat_lt 9223372036854775807 c.value; bits = c.value } in
    (constant v, subst (λ ps. IsCondition ps (constant v) []) (sym (one_part t ∙ ap (λ p. p ∷ []) (number_is t c k e))) (number_alone v), refl)

-- ranges

pub unsigned_range : (n : ℕ) → n < 2 ^ 64 → (pos 0 ≤ℤ number_of true n) × (number_of true n ≤ℤ pos 18446744073709551615)
unfolding number_of
unsigned_range n l = (omega (arith, ints), omega (arith, ints))

pub signed_range : (n : ℕ) → n < 2 ^ 64 → (negsuc 9223372036854775807 ≤ℤ number_of false n) × (number_of false n ≤ℤ pos 9223372036854775807)
signed_range n l =
    ⊎_elim
    (λ (h : n < 2 ^ 63). subst (λ z. (negsuc 9223372036854775807 ≤ℤ z) × (z ≤ℤ pos 9223372036854775807)) (sym (signed_low n h)) (omega (arith, ints), omega (arith, ints)))
    (λ (h : 2 ^ 63 ≤ n). subst (λ z. (negsuc 9223372036854775807 ≤ℤ z) × (z ≤ℤ pos 9223372036854775807)) (sym (signed_high n l h)) (omega (arith, ints), omega (arith, ints)))
    (cases_lt n (2 ^ 63))

pub bits_once : (u : Bool) (n : ℕ) → n < 2 ^ 64 → bits_of (number_of u n) ≡ n
bits_once u n l = ways (λ z. bits_of z ≡ n) u n l (bits_pos n l) (λ h e. bits_negsuc (2 ^ 64 - 1 - n) (omega arith) ∙ back n l)
  where
    back : (n : ℕ) → n < 2 ^ 64 → 2 ^ 64 - 1 - (2 ^ 64 - 1 - n) ≡ n
    back n l = omega arith
