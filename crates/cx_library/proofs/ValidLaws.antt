-- The values that an argument may have.
use Rattle.std.proofs.Common.{◌≡◌, ◌↔◌, ℕ, ℤ, int_le, ◌≤ℤ◌, arith, Bool, true, false, ◌&&◌, ◌||◌, [], ◌∷◌, Some, refl}
use Rattle.std.proofs.lemmas.Int.{ints}
use Rattle.cx_library.specs.declared.described.ArgRule.{ArgRule}
use Rattle.cx_library.specs.declared.described.Described.{Described}
use Rattle.cx_library.specs.Arguments.{rule_of, valid}

or_false : (b : Bool) → (b || false) ≡ b
or_false true = refl
or_false false = refl

both_true : (a b : Bool) → ((a && b) ≡ true → (a ≡ true) × (b ≡ true))
both_true true true h = (refl, refl)
both_true true false h = absurd (cc)
both_true false b h = absurd (cc)

from_test : (x y : ℤ) → int_le x y ≡ true → x ≤ℤ y
from_test x y h = grind (arith, ints)

to_test : (x y : ℤ) → x ≤ℤ y → int_le x y ≡ true
to_test x y h = grind (arith, ints)

pub between : (d : Described) (number : ℕ) (rule : ArgRule) (least greatest value : ℤ) → rule_of d.args number ≡ Some rule
    → rule.ranges ≡ record { least = Some least; greatest = Some greatest } ∷ []
    → (valid d number value ≡ true) ↔ ((least ≤ℤ value) × (value ≤ℤ greatest))
unfolding valid
between d number rule least greatest value e r =
    rw (e, r, or_false (int_le least value && int_le value greatest)) (
      λ h. let t = both_true (int_le least value) (int_le value greatest) h in (from_test least value t.0, from_test value greatest t.1),
      λ h. rw (to_test least value h.0, to_test value greatest h.1) refl,
    )
