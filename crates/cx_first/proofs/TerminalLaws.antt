-- What a number's terminal says is what its text is.
use Rattle.std.proofs.Common.{◌≡◌, ℕ, ◌==◌, Bool, true, false, not, ◌&&◌, cond, nat_le, nat_lt, List, [], ◌∷◌, length, refl, arith}
use Rattle.std.proofs.lemmas.Bool.Decides.{nat_tests}
use Rattle.std.specs.List.{list_all}
use Rattle.cx_lex.specs.Characters.{is_digit}
use Rattle.cx_first.specs.Numbers.{number_of, greatest, IsIntConstant}
use Rattle.cx_first.specs.declared.terminals.Terminal.TheVariants as terminal_is
use Rattle.cx_first.specs.Terminals.{number, is_int_constant}

no_zero : (byte : ℕ) (bytes : List ℕ) → (byte ≡ 48 → bytes ≡ []) → not (byte == 48 && nat_lt 0 (length bytes)) ≡ true
no_zero byte [] h = grind (arith, nat_tests)
no_zero byte (x ∷ xs) h = let far : byte ≡ 48 → ⊥ = λ e. absurd (let k : x ∷ xs ≡ [] = h e in cc) in grind (arith, nat_tests, far)

zero_alone : (byte : ℕ) (bytes : List ℕ) → not (byte == 48 && nat_lt 0 (length bytes)) ≡ true → byte ≡ 48 → bytes ≡ []
zero_alone byte [] h e = refl
zero_alone byte (x ∷ xs) h e = absurd (grind (arith, nat_tests, h, e))

constant_true : (text : List ℕ) → IsIntConstant text → is_int_constant text ≡ true
unfolding is_int_constant
constant_true [] h = absurd h.0
constant_true (byte ∷ bytes) h =
    let small : nat_le (number_of (byte ∷ bytes)) greatest ≡ true = grind (arith, nat_tests, h.1) in
    rw (h.0.0, no_zero byte bytes h.0.1, small) refl

both : (a b : Bool) → (a && b) ≡ true → (a ≡ true) × (b ≡ true)
both true true h = (refl, refl)
both true false h = absurd cc
both false b h = absurd cc

constant_is : (text : List ℕ) → is_int_constant text ≡ true → IsIntConstant text
unfolding is_int_constant
constant_is [] h = absurd cc
constant_is (byte ∷ bytes) h =
    let outer = both (list_all is_digit (byte ∷ bytes) && not (byte == 48 && nat_lt 0 (length bytes))) (nat_le (number_of (byte ∷ bytes)) greatest) h in
    let inner = both (list_all is_digit (byte ∷ bytes)) (not (byte == 48 && nat_lt 0 (length bytes))) outer.0 in
    ((inner.0, zero_alone byte bytes inner.1), grind (arith, nat_tests, outer.1))

pub number_is : (text : List ℕ) (value : ℕ) → IsIntConstant text × (value ≡ number_of text) → terminal_is.Number value ≡ number text
unfolding number
number_is text value h = rw (constant_true text h.0, h.1) refl

pub number_none : (text : List ℕ) → ¬ IsIntConstant text → terminal_is.Foreign ≡ number text
unfolding number
number_none text h = elim (is_int_constant text) as (λ b. is_int_constant text ≡ b → terminal_is.Foreign ≡ cond b (terminal_is.Number (number_of text)) terminal_is.Foreign) [
  | true ↦ λ e. absurd (h (constant_is text e))
  | false ↦ λ e. refl
] refl
