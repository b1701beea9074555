-- The integer operators of C11 (ISO/IEC 9899:2011) 6.5 on two whole numbers, operands of one type:
-- None where the behavior is undefined.
use Rattle.std.specs.Prelude.{ℕ, ◌^◌, ℤ, pos, negsuc, neg_ℤ, ◌+ℤ◌, ◌-ℤ◌, ◌*ℤ◌, Bool, false, not, ◌&&◌, if◌then◌else◌, nat_lt, int_le, int_lt, int_div, unsigned_abs, Option, Some, None, option_and_then}
use Rattle.std.specs.Ordering.{int_eq}
use Rattle.std.specs.Int.{int_div_euclid}
use Rattle.std.specs.Int.RustNames.{bit_and, bit_or, bit_xor}
use Rattle.cx_tree.specs.declared.types.Platform.{Platform}
use Rattle.cx_tree.specs.declared.types.IntType.{IntType}
use Rattle.cx_tree.specs.declared.types.Kind.{Kind}
use Rattle.cx_tree.specs.declared.types.Kind.TheVariants.{Boolean, Signed, Unsigned}
use Rattle.cx_tree.specs.declared.types.Width.{Width}
use Rattle.cx_tree.specs.declared.operators.Op.{Op}
use Rattle.cx_tree.specs.declared.operators.Op.TheVariants as operator
use Rattle.cx_tree.specs.IntegerTypes.{kind, width, bits, least_of, greatest_of}
use Rattle.cx_tree.specs.ConversionRules.{low_bits, convert_to, convert, promote}

-- C11 6.5p5: a signed result that its type does not hold is undefined; 6.2.5p9: an unsigned one is
-- converted
abbrev pub fit_in : Kind → Width → ℤ → Option ℤ
fit_in Boolean w x = Some (convert_to Boolean w x)
fit_in Signed w x =
    if int_le (least_of Signed w) x && int_le x (greatest_of Signed w) then Some x else None
fit_in Unsigned w x = Some (convert_to Unsigned w x)

-- C11 6.5p5: the result in type t of an operation that gives x without bounds
abbrev pub fit : IntType → Platform → ℤ → Option ℤ
fit t p x = fit_in (kind t) (width t p) x

-- C11 6.5.5p5 and p6: undefined where b is 0, else the quotient without its fraction
abbrev pub divide : IntType → Platform → ℤ → ℤ → Option ℤ
divide t p a b = if int_eq b (pos 0) then None else fit t p (int_div a b)

-- C11 6.5.5p6: where the quotient is defined, (a/b)*b + a%b is a
abbrev pub remainder : IntType → Platform → ℤ → ℤ → Option ℤ
remainder t p a b = option_and_then (λ _. fit t p (a -ℤ (int_div a b *ℤ b))) (divide t p a b)

-- C11 6.5.7p3: the count of a shift, undefined where it is negative or not below the width of the
-- promoted type
abbrev pub shift_count : IntType → Platform → ℤ → Option ℕ
shift_count t p (pos n) = if nat_lt n (bits (width (promote t p) p)) then Some n else None
shift_count t p (negsuc n) = None

-- C11 6.5.7p4: << is undefined at a negative value of a signed type
abbrev pub is_negative_of_signed : Kind → ℤ → Bool
is_negative_of_signed Boolean a = false
is_negative_of_signed Signed a = int_lt a (pos 0)
is_negative_of_signed Unsigned a = false

-- C11 6.5.7p4: a times 2 to the power b
abbrev pub shift_left : IntType → Platform → ℤ → ℤ → Option ℤ
shift_left t p a b =
    option_and_then
    (λ n. if is_negative_of_signed (kind t) a then None else fit t p (a *ℤ pos (2 ^ n)))
    (shift_count t p b)

-- C11 6.5.7p5: a divided by 2 to the power b, rounded down
abbrev pub shift_right : IntType → Platform → ℤ → ℤ → Option ℤ
shift_right t p a b =
    option_and_then (λ n. fit t p (int_div_euclid a (pos (2 ^ n)))) (shift_count t p b)

-- C11 6.2.6.2p2: the bits of x in two's complement, as a number from 0 up
abbrev pub pattern : Width → ℤ → ℕ
pattern w x = unsigned_abs (low_bits w x)

-- C11 6.5.10p4, 6.5.11p4 and 6.5.12p4: the value whose bits are combined from those of a and b,
-- each to each
abbrev pub bitwise : (ℕ → ℕ → ℕ) → IntType → Platform → ℤ → ℤ → Option ℤ
bitwise combine t p a b =
    Some (convert t p (pos (combine (pattern (width t p) a) (pattern (width t p) b))))

-- C11 6.5.8p6 and 6.5.9p3: 1 where a relation holds, else 0
abbrev pub truth : Bool → Option ℤ
truth holds = Some (if holds then pos 1 else pos 0)

-- C11 6.5.3.3 and 6.5.5 to 6.5.12: each operator; - and ~ take a alone, and ~ gives -a - 1
-- (6.2.6.2p2)
unfoldable pub arith : Op → IntType → Platform → ℤ → ℤ → Option ℤ
arith operator.Multiply t p a b = fit t p (a *ℤ b)
arith operator.Divide t p a b = divide t p a b
arith operator.Remainder t p a b = remainder t p a b
arith operator.Add t p a b = fit t p (a +ℤ b)
arith operator.Subtract t p a b = fit t p (a -ℤ b)
arith operator.ShiftLeft t p a b = shift_left t p a b
arith operator.ShiftRight t p a b = shift_right t p a b
arith operator.BitAnd t p a b = bitwise bit_and t p a b
arith operator.BitXor t p a b = bitwise bit_xor t p a b
arith operator.BitOr t p a b = bitwise bit_or t p a b
arith operator.Complement t p a b = fit t p (neg_ℤ a -ℤ pos 1)
arith operator.Negate t p a b = fit t p (neg_ℤ a)
arith operator.Less t p a b = truth (int_lt a b)
arith operator.LessEqual t p a b = truth (int_le a b)
arith operator.Greater t p a b = truth (int_lt b a)
arith operator.GreaterEqual t p a b = truth (int_le b a)
arith operator.Equal t p a b = truth (int_eq a b)
arith operator.NotEqual t p a b = truth (not (int_eq a b))
