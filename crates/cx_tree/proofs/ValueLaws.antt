-- Conversions and operators give values of the type.
use Rattle.std.proofs.Common.{◌≡◌, ℕ, ◌+◌, ◌-◌, ◌*◌, ◌/◌, ◌%◌, ◌^◌, ◌<◌, ℤ, pos, negsuc, ◌+ℤ◌, ◌-ℤ◌, ◌*ℤ◌, ◌≤ℤ◌, refl, sym, subst, arith, Option, Some, None, Bool, true, false, cond, ◌&&◌, int_le, int_lt, option_and_then, int_div}
use Rattle.std.specs.Ordering.{int_eq}
use Rattle.std.proofs.lemmas.Int.{ints}
use Rattle.std.proofs.Math.Nat.{div-add-mod}
use Rattle.std.specs.Int.{int_rem_euclid, int_div_euclid}
use Rattle.cx_tree.specs.declared.types.Platform.{Platform}
use Rattle.cx_tree.specs.declared.types.IntType.{IntType}
use Rattle.cx_tree.specs.declared.types.IntType.TheVariants as ctype
use Rattle.cx_tree.specs.declared.types.Kind.{Kind}
use Rattle.cx_tree.specs.declared.types.Kind.TheVariants.{Boolean, Signed, Unsigned}
use Rattle.cx_tree.specs.declared.types.Width.{Width}
use Rattle.cx_tree.specs.declared.types.Width.TheVariants.{Bits8, Bits16, Bits32, Bits64}
use Rattle.cx_tree.specs.declared.operators.Op.{Op}
use Rattle.cx_tree.specs.declared.operators.Op.TheVariants as operator
use Rattle.cx_tree.specs.IntegerTypes.{kind, width, span, sign_bit, least_of, greatest_of}
use Rattle.cx_tree.specs.ConversionRules.{signed_value, convert_to, convert}
use Rattle.cx_tree.specs.Arithmetic.{fit_in, fit, divide, shift_count, is_negative_of_signed, truth, arith as of_operator}
use Rattle.cx_tree.specs.Laws.{ConvertsByMultiple, GivesValues}

-- ---- the numbers of a width

record Sizes (w : Width) : Type 0 where
  whole : span w ≡ sign_bit w + sign_bit w
  some : 0 < sign_bit w

sizes : (w : Width) → Sizes w
sizes Bits8 = record { whole = refl; some = omega arith }
sizes Bits16 = record { whole = refl; some = omega arith }
sizes Bits32 = record { whole = refl; some = omega arith }
sizes Bits64 = record { whole = refl; some = omega arith }

-- the remainder of x by n, and how often n is subtracted or added to get it
record Remains (x : ℤ) (n : ℕ) : Type 0 where
  rest : ℕ
  less : ℕ
  more : ℕ
  is : int_rem_euclid x (pos n) ≡ pos rest
  below : rest < n
  sum : pos rest +ℤ pos (less * n) ≡ x +ℤ pos (more * n)

remains : (x : ℤ) (n : ℕ) → 0 < n → Remains x n
remains (pos a) n some =
    let d = div-add-mod a n in
    record { rest = a % n; less = a / n; more = 0; is = refl; below = omega arith; sum = omega (arith, ints) }
remains (negsuc a) n some =
    let d = div-add-mod a n in
    record { rest = n - 1 - a % n; less = 0; more = a / n + 1; is = refl; below = omega arith; sum = omega (arith, ints) }

-- ---- conversions

record IsWithin (k : Kind) (w : Width) (x : ℤ) : Type 0 where
  low : least_of k w ≤ℤ x
  high : x ≤ℤ greatest_of k w

boolean_within : (w : Width) (b : Bool) → IsWithin Boolean w (cond b (pos 0) (pos 1))
boolean_within w true = record { low = omega (arith, ints); high = omega (arith, ints) }
boolean_within w false = record { low = omega (arith, ints); high = omega (arith, ints) }

signed_within : (w : Width) (r : ℕ) → r < span w → IsWithin Signed w (signed_value w (pos r))
signed_within w r h = let s = sizes w in grind (arith, ints)

convert_within : (k : Kind) (w : Width) (x : ℤ) → IsWithin k w (convert_to k w x)
convert_within Boolean w x = boolean_within w (int_eq x (pos 0))
convert_within Signed w x =
    let s = sizes w in
    let r = remains x (span w) (omega arith) in
    subst (λ (y : ℤ). IsWithin Signed w (signed_value w y)) (sym r.is) (signed_within w r.rest r.below)
convert_within Unsigned w x =
    let s = sizes w in
    let r = remains x (span w) (omega arith) in
    subst (λ (y : ℤ). IsWithin Unsigned w y) (sym r.is) (record { low = omega (arith, ints); high = omega (arith, ints) })

-- how often 2 to the power of the width is added to y, and how often to x
abbrev Multiple : Width → ℤ → ℤ → Type 0
Multiple w y x = (j : ℕ) × (k : ℕ) × (y +ℤ pos (j * span w) ≡ x +ℤ pos (k * span w))

signed_multiple : (w : Width) (x : ℤ) (r : Remains x (span w)) (b : Bool)
    → Multiple w (cond b (pos r.rest) (pos r.rest -ℤ pos (span w))) x
signed_multiple w x r true = (r.less, r.more, r.sum)
signed_multiple w x r false = let e = r.sum in (r.less + 1, r.more, omega (arith, ints))

multiple : (k : Kind) (w : Width) (x : ℤ) → (k ≡ Boolean → ⊥) → Multiple w (convert_to k w x) x
multiple Boolean w x other = absurd (other refl)
multiple Signed w x other =
    let s = sizes w in
    let r = remains x (span w) (omega arith) in
    subst (λ (y : ℤ). Multiple w (signed_value w y) x) (sym r.is) (signed_multiple w x r (int_lt (pos r.rest) (pos (sign_bit w))))
multiple Unsigned w x other =
    let s = sizes w in
    let r = remains x (span w) (omega arith) in
    subst (λ (y : ℤ). Multiple w y x) (sym r.is) (r.less, r.more, r.sum)

boolean_is : (t : IntType) → kind t ≡ Boolean → t ≡ ctype.Bool
boolean_is ctype.Bool e = refl
boolean_is ctype.Char e = absurd (cc)
boolean_is ctype.SignedChar e = absurd (cc)
boolean_is ctype.UnsignedChar e = absurd (cc)
boolean_is ctype.Short e = absurd (cc)
boolean_is ctype.UnsignedShort e = absurd (cc)
boolean_is ctype.Int e = absurd (cc)
boolean_is ctype.UnsignedInt e = absurd (cc)
boolean_is ctype.Long e = absurd (cc)
boolean_is ctype.UnsignedLong e = absurd (cc)
boolean_is ctype.LongLong e = absurd (cc)
boolean_is ctype.UnsignedLongLong e = absurd (cc)

pub converts_by_multiple : ConvertsByMultiple
unfolding convert
converts_by_multiple t p x other = multiple (kind t) (width t p) x (λ e. other (boolean_is t e))

-- ---- operators

some_is : (x y : ℤ) → Some x ≡ Some y → x ≡ y
some_is x y e = cc

converted_within : (k : Kind) (w : Width) (x y : ℤ) → Some (convert_to k w x) ≡ Some y → IsWithin k w y
converted_within k w x y e = subst (λ (z : ℤ). IsWithin k w z) (some_is _ _ e) (convert_within k w x)

signed_fits : (w : Width) (x y : ℤ) (b : Bool)
    → (int_le (least_of Signed w) x && int_le x (greatest_of Signed w)) ≡ b → cond b (Some x) None ≡ Some y
    → IsWithin Signed w y
signed_fits w x y true h e = let i = some_is x y e in record { low = grind (arith, ints); high = grind (arith, ints) }
signed_fits w x y false h e = absurd (cc)

fit_within : (k : Kind) (w : Width) (x y : ℤ) → fit_in k w x ≡ Some y → IsWithin k w y
fit_within Boolean w x y e = converted_within Boolean w x y e
fit_within Signed w x y e = signed_fits w x y (int_le (least_of Signed w) x && int_le x (greatest_of Signed w)) refl e
fit_within Unsigned w x y e = converted_within Unsigned w x y e

truth_within : (k : Kind) (w : Width) (b : Bool) (y : ℤ) → truth b ≡ Some y → IsWithin k w y
truth_within k w b y e = subst (λ (z : ℤ). IsWithin k w z) (some_is _ _ e) (of_either k w b)
  where
    of_either : (k : Kind) (w : Width) (b : Bool) → IsWithin k w (cond b (pos 1) (pos 0))
    of_either Boolean w true = record { low = omega (arith, ints); high = omega (arith, ints) }
    of_either Boolean w false = record { low = omega (arith, ints); high = omega (arith, ints) }
    of_either Signed Bits8 b = grind (arith, ints)
    of_either Signed Bits16 b = grind (arith, ints)
    of_either Signed Bits32 b = grind (arith, ints)
    of_either Signed Bits64 b = grind (arith, ints)
    of_either Unsigned Bits8 b = grind (arith, ints)
    of_either Unsigned Bits16 b = grind (arith, ints)
    of_either Unsigned Bits32 b = grind (arith, ints)
    of_either Unsigned Bits64 b = grind (arith, ints)

-- what is so of each result of a step is so of what two steps give
after_step : {A : Type 0} (f : A → Option ℤ) (o : Option A) (P : ℤ → Type 0) → ((n : A) (y : ℤ) → f n ≡ Some y → P y)
    → (y : ℤ) → option_and_then f o ≡ Some y → P y
after_step f None P h y e = absurd (cc)
after_step f (Some n) P h y e = h n y e

unless : (b : Bool) (o : Option ℤ) (y : ℤ) → cond b None o ≡ Some y → o ≡ Some y
unless true o y e = absurd (cc)
unless false o y e = e

result_within : (o : Op) (t : IntType) (p : Platform) (a b y : ℤ) → of_operator o t p a b ≡ Some y
    → IsWithin (kind t) (width t p) y
unfolding of_operator convert
result_within operator.Multiply t p a b y e = fit_within _ _ _ y e
result_within operator.Add t p a b y e = fit_within _ _ _ y e
result_within operator.Subtract t p a b y e = fit_within _ _ _ y e
result_within operator.Complement t p a b y e = fit_within _ _ _ y e
result_within operator.Negate t p a b y e = fit_within _ _ _ y e
result_within operator.Divide t p a b y e = fit_within _ _ _ y (unless (int_eq b (pos 0)) _ y e)
result_within operator.Remainder t p a b y e =
    after_step (λ (_ : ℤ). fit t p (a -ℤ (int_div a b *ℤ b)))
    (divide t p a b) (IsWithin (kind t) (width t p))
    (λ _ z h. fit_within _ _ _ z h) y e
result_within operator.ShiftLeft t p a b y e =
    after_step (λ (n : ℕ). cond (is_negative_of_signed (kind t) a) None (fit t p (a *ℤ pos (2 ^ n))))
    (shift_count t p b) (IsWithin (kind t) (width t p))
    (λ n z h. fit_within _ _ _ z (unless (is_negative_of_signed (kind t) a) _ z h)) y e
result_within operator.ShiftRight t p a b y e =
    after_step (λ (n : ℕ). fit t p (int_div_euclid a (pos (2 ^ n))))
    (shift_count t p b) (IsWithin (kind t) (width t p))
    (λ n z h. fit_within _ _ _ z h) y e
result_within operator.BitAnd t p a b y e = converted_within _ _ _ y e
result_within operator.BitXor t p a b y e = converted_within _ _ _ y e
result_within operator.BitOr t p a b y e = converted_within _ _ _ y e
result_within operator.Less t p a b y e = truth_within _ _ _ y e
result_within operator.LessEqual t p a b y e = truth_within _ _ _ y e
result_within operator.Greater t p a b y e = truth_within _ _ _ y e
result_within operator.GreaterEqual t p a b y e = truth_within _ _ _ y e
result_within operator.Equal t p a b y e = truth_within _ _ _ y e
result_within operator.NotEqual t p a b y e = truth_within _ _ _ y e

pub gives_values : GivesValues
gives_values o t p a b y e = let h = result_within o t p a b y e in (h.low, h.high)
