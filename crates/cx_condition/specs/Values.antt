-- Values of 64 bits, and what the operators make of them (C11 6.10.1, paragraph 4, and 6.5). What
-- has no result in its type wraps around, in two's complement.
use Rattle.std.specs.Prelude.{ℕ, suc, ◌-◌, ◌^◌, ◌==◌, ℤ, pos, negsuc, neg_ℤ, ◌+ℤ◌, ◌-ℤ◌, ◌*ℤ◌, int_lt, int_le, int_div, int_rem, unsigned_abs, bit_and, bit_or, bit_xor, Bool, true, false, not, ◌||◌, if◌then◌else◌, Option, Some, None, option_map, option_and_then}
use Rattle.std.specs.Int.{cast_signed, int_rem_euclid, int_div_euclid, w64}
use Rattle.cx_condition.specs.declared.value.Operand.{Operand}
use Rattle.cx_condition.specs.declared.value.Value.{Value}
use Rattle.cx_condition.specs.declared.operator.Operator.{Operator}
use Rattle.cx_condition.specs.declared.operator.Operator.TheVariants as operator
use Rattle.cx_condition.specs.declared.operator.Unary.{Unary}
use Rattle.cx_condition.specs.declared.operator.Unary.TheVariants as unary_is

-- the number that 64 bits stand for, unsigned or in two's complement
unfoldable pub number_of : Bool → ℕ → ℤ
number_of is_unsigned bits = if is_unsigned then pos bits else cast_signed w64 bits

-- the 64 bits that stand for a number, or for what it wraps around to
unfoldable pub bits_of : ℤ → ℕ
bits_of x = unsigned_abs (int_rem_euclid x (pos (2 ^ 64)))

-- 1 where a relation holds, else 0 (C11 6.5.8, paragraph 6, and 6.5.9, paragraph 3)
abbrev pub truth : Bool → ℕ
truth holds = if holds then 1 else 0

-- a quotient cut towards zero, of its operation: none by zero (C11 6.5.5, paragraphs 5 and 6)
abbrev pub unless_zero : ℕ → ℤ → Option ℕ
unless_zero divisor x = if divisor == 0 then None else Some (bits_of x)

-- the bits of `x op y` for the operators that convert both sides to a common type, unsigned or
-- signed (C11 6.5.5, 6.5.6 and 6.5.8 to 6.5.12)
unfoldable pub result_of : Operator → Bool → ℕ → ℕ → Option ℕ
result_of operator.Multiply u x y = Some (bits_of (number_of u x *ℤ number_of u y))
result_of operator.Divide u x y = unless_zero y (int_div (number_of u x) (number_of u y))
result_of operator.Remainder u x y = unless_zero y (int_rem (number_of u x) (number_of u y))
result_of operator.Add u x y = Some (bits_of (number_of u x +ℤ number_of u y))
result_of operator.Subtract u x y = Some (bits_of (number_of u x -ℤ number_of u y))
result_of operator.Less u x y = Some (truth (int_lt (number_of u x) (number_of u y)))
result_of operator.Greater u x y = Some (truth (int_lt (number_of u y) (number_of u x)))
result_of operator.AtMost u x y = Some (truth (not (int_lt (number_of u y) (number_of u x))))
result_of operator.AtLeast u x y = Some (truth (not (int_lt (number_of u x) (number_of u y))))
result_of operator.Equal u x y = Some (truth (x == y))
result_of operator.Different u x y = Some (truth (not (x == y)))
result_of operator.And u x y = Some (bit_and x y)
result_of operator.ExclusiveOr u x y = Some (bit_xor x y)
result_of operator.Or u x y = Some (bit_or x y)
result_of _ u x y = None

-- the operators whose result is 1 or 0, of the signed type
unfoldable pub is_relation : Operator → Bool
is_relation operator.Less = true
is_relation operator.Greater = true
is_relation operator.AtMost = true
is_relation operator.AtLeast = true
is_relation operator.Equal = true
is_relation operator.Different = true
is_relation _ = false

-- the type that both sides are converted to: unsigned where one is (C11 6.3.1.8). The bits stay
-- the same (6.3.1.3).
abbrev pub common : Operand → Operand → Bool
common a b = a.is_unsigned || b.is_unsigned

unfoldable pub converted : Operator → Operand → Operand → Operand
converted op a b = record {
  is_unsigned = if is_relation op then false else common a b;
  bits = option_and_then (λ x. option_and_then (λ y. result_of op (common a b) x y) b.bits) a.bits;
}

-- a number shifted to the left by a count: to the right by a negative one, rounded down
unfoldable pub shifted : ℤ → ℤ → ℤ
shifted x (pos n) = x *ℤ pos (2 ^ n)
shifted x (negsuc n) = int_div_euclid x (pos (2 ^ suc n))

-- the value of an operand
abbrev pub value_of : Operand → Option Value
value_of a = option_map (λ x. record { is_unsigned = a.is_unsigned; bits = x }) a.bits

abbrev pub shift_bits : (ℤ → ℤ) → Operand → Operand → Option ℕ
shift_bits count a b =
    option_and_then
    (λ v. option_map
    (λ w. bits_of (shifted (number_of v.is_unsigned v.bits) (count (number_of w.is_unsigned w.bits))))
    (value_of b))
    (value_of a)

-- a shift has the type of its left side (C11 6.5.7, paragraph 3); its count is `count` of the
-- right side
unfoldable pub shift : (ℤ → ℤ) → Operand → Operand → Operand
shift count a b = record { is_unsigned = a.is_unsigned; bits = shift_bits count a b }

-- `&&`: the right side is evaluated only where the left one is not 0 (C11 6.5.13, paragraph 4)
unfoldable pub both : Operand → Operand → Operand
both a b = record {
  is_unsigned = false;
  bits = option_and_then
      (λ x. if x == 0 then Some 0 else option_map (λ y. truth (not (y == 0))) b.bits)
      a.bits;
}

-- `||`: the right side is evaluated only where the left one is 0 (C11 6.5.14, paragraph 4)
unfoldable pub either : Operand → Operand → Operand
either a b = record {
  is_unsigned = false;
  bits = option_and_then
      (λ x. if x == 0 then option_map (λ y. truth (not (y == 0))) b.bits else Some 1)
      a.bits;
}

-- what an operator makes of two operands
unfoldable pub binary : Operator → Operand → Operand → Operand
binary operator.LogicalAnd a b = both a b
binary operator.LogicalOr a b = either a b
binary operator.ShiftLeft a b = shift (λ n. n) a b
binary operator.ShiftRight a b = shift neg_ℤ a b
binary op a b = converted op a b

-- what an operator makes of one operand (C11 6.5.3.3)
unfoldable pub unary : Unary → Operand → Operand
unary unary_is.Plus a = a
unary unary_is.Minus a = record {
  is_unsigned = a.is_unsigned;
  bits = option_map (λ x. bits_of (neg_ℤ (number_of a.is_unsigned x))) a.bits;
}
unary unary_is.Complement a = record {
  is_unsigned = a.is_unsigned;
  bits = option_map (λ x. bits_of (negsuc 0 -ℤ number_of a.is_unsigned x)) a.bits;
}
unary unary_is.Not a = record {
  is_unsigned = false;
  bits = option_map (λ x. truth (x == 0)) a.bits;
}

-- `c ? a : b`: one of both sides is evaluated, and the type is the common one (C11 6.5.15,
-- paragraphs 4 and 5)
unfoldable pub choice : Operand → Operand → Operand → Operand
choice c a b = record {
  is_unsigned = common a b;
  bits = option_and_then (λ x. if x == 0 then b.bits else a.bits) c.bits;
}
