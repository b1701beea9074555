-- The definitions at small conditions.
use Rattle.std.proofs.Common.{◌≡◌, ℕ, ◌^◌, List, [], ◌∷◌, Bool, true, false, Option, Some, None, refl, codes}
use Rattle.cx_condition.specs.declared.digits.Base.TheVariants.{Octal, Decimal, Hexadecimal}
use Rattle.cx_condition.specs.declared.integer.Length.TheVariants.{Plain, Long, LongLong}
use Rattle.cx_condition.specs.declared.integer.IntegerConstant.{IntegerConstant}
use Rattle.cx_condition.specs.declared.operator.Operator.TheVariants as operator
use Rattle.cx_condition.specs.declared.operator.Unary.TheVariants as unary_is
use Rattle.cx_condition.specs.declared.value.Value.{Value}
use Rattle.cx_condition.specs.declared.part.Part.{Part}
use Rattle.cx_condition.specs.Digits.{after_digits, begins_with_digit, digit_of, digits_of, digits_value, is_digit}
use Rattle.cx_condition.specs.Constants.{begins_hexadecimal, begins_with_zero, character_value, closed, constant_of, content, escape, integer_constant, long_front, numeric_escape, simple_escape, suffix_of, suffixed}
use Rattle.cx_condition.specs.Parts.{char_part, constant as constant_part, number_part, sign_part, single_sign, double_sign}
use Rattle.cx_condition.specs.declared.part.Part.TheVariants as part_is
use Rattle.cx_condition.specs.Conditions.{Tree, conditional, constant, evaluated, joined, prefixed, value}
use Rattle.cx_condition.specs.Values.{binary, bits_of, both, choice, converted, either, is_relation, number_of, result_of, shift, shifted, unary}

-- constants

abbrev decimal : ℕ → Option IntegerConstant
decimal n = Some (record { value = n; base = Decimal; is_unsigned = false; length = Plain })

plain_seven : integer_constant (codes "7") ≡ decimal 7
unfolding integer_constant constant_of begins_hexadecimal begins_with_zero begins_with_digit is_digit digit_of digits_of after_digits digits_value suffixed suffix_of long_front
plain_seven = refl

octal : integer_constant (codes "010ul") ≡ Some (record { value = 8; base = Octal; is_unsigned = true; length = Long })
unfolding integer_constant constant_of begins_hexadecimal begins_with_zero begins_with_digit is_digit digit_of digits_of after_digits digits_value suffixed suffix_of long_front
octal = refl

hexadecimal : integer_constant (codes "0xFfLLU") ≡ Some (record { value = 255; base = Hexadecimal; is_unsigned = true; length = LongLong })
unfolding integer_constant constant_of begins_hexadecimal begins_with_zero begins_with_digit is_digit digit_of digits_of after_digits digits_value suffixed suffix_of long_front
hexadecimal = refl

greatest : integer_constant (codes "18446744073709551615") ≡ decimal 18446744073709551615
unfolding integer_constant constant_of begins_hexadecimal begins_with_zero begins_with_digit is_digit digit_of digits_of after_digits digits_value suffixed suffix_of long_front
greatest = refl

none_above : integer_constant (codes "18446744073709551616") ≡ None
unfolding integer_constant constant_of begins_hexadecimal begins_with_zero begins_with_digit is_digit digit_of digits_of after_digits digits_value suffixed suffix_of long_front
none_above = refl

no_octal : integer_constant (codes "08") ≡ None
unfolding integer_constant constant_of begins_hexadecimal begins_with_zero begins_with_digit is_digit digit_of digits_of after_digits digits_value suffixed suffix_of long_front
no_octal = refl

no_mixed_length : integer_constant (codes "1lL") ≡ None
unfolding integer_constant constant_of begins_hexadecimal begins_with_zero begins_with_digit is_digit digit_of digits_of after_digits digits_value suffixed suffix_of long_front
no_mixed_length = refl

no_digits : integer_constant (codes "0x") ≡ None
unfolding integer_constant constant_of begins_hexadecimal begins_with_zero begins_with_digit is_digit digit_of digits_of after_digits digits_value suffixed suffix_of long_front
no_digits = refl

letter : character_value (codes "'a'") ≡ Some 97
unfolding character_value content closed
letter = refl

octal_escape : character_value (39 ∷ 92 ∷ codes "351'") ≡ Some 233
unfolding character_value content escape numeric_escape closed simple_escape begins_with_digit is_digit digit_of digits_of after_digits digits_value
octal_escape = refl

no_octal_escape : character_value (39 ∷ 92 ∷ codes "400'") ≡ None
unfolding character_value content escape numeric_escape closed simple_escape begins_with_digit is_digit digit_of digits_of after_digits digits_value
no_octal_escape = refl

no_long_escape : character_value (39 ∷ 92 ∷ codes "1234'") ≡ None
unfolding character_value content escape numeric_escape closed simple_escape begins_with_digit is_digit digit_of digits_of after_digits digits_value
no_long_escape = refl

no_letter_escape : character_value (39 ∷ 92 ∷ codes "q'") ≡ None
unfolding character_value content escape numeric_escape closed simple_escape begins_with_digit is_digit digit_of digits_of after_digits digits_value
no_letter_escape = refl

newline : character_value (39 ∷ 92 ∷ codes "n'") ≡ Some 10
unfolding character_value content escape numeric_escape closed simple_escape begins_with_digit is_digit digit_of digits_of after_digits digits_value
newline = refl

no_two : character_value (codes "'ab'") ≡ None
unfolding character_value content closed
no_two = refl

no_byte : character_value (codes "''") ≡ None
unfolding character_value content closed
no_byte = refl

-- -23, in 64 bits
signed_byte : char_part (39 ∷ 92 ∷ codes "351'") ≡ constant_part false 18446744073709551593
unfolding char_part bits_of character_value content escape numeric_escape closed simple_escape begins_with_digit is_digit digit_of digits_of after_digits digits_value
signed_byte = refl

equal_sign : sign_part (codes "==") ≡ part_is.Operator operator.Equal
unfolding sign_part double_sign
equal_sign = refl

no_assignment : sign_part (codes "=") ≡ part_is.Other
unfolding sign_part single_sign
no_assignment = refl

-- values

abbrev signed : ℕ → Tree
signed n = constant (record { is_unsigned = false; bits = n })

abbrev unsigned : ℕ → Tree
unsigned n = constant (record { is_unsigned = true; bits = n })

abbrev minus : Tree → Tree
minus a = prefixed unary_is.Minus a

abbrev is_signed : ℕ → Option Value
is_signed n = Some (record { is_unsigned = false; bits = n })

abbrev minus_one : ℕ
minus_one = 18446744073709551615

unsigned_order : value (joined operator.Greater (minus (signed 1)) (unsigned 0)) ≡ is_signed 1
unfolding evaluated unary binary converted is_relation result_of number_of bits_of
unsigned_order = refl

common_type : value (joined operator.Greater (conditional (signed 1) (minus (signed 1)) (unsigned 0)) (signed 0)) ≡ is_signed 1
unfolding evaluated unary binary choice converted is_relation result_of number_of bits_of
common_type = refl

all_bits_lost : value (joined operator.ShiftLeft (signed 1) (signed 64)) ≡ is_signed 0
unfolding evaluated binary shift shifted number_of bits_of
all_bits_lost = refl

sign_is_left : value (joined operator.ShiftRight (minus (signed 1)) (signed 64)) ≡ is_signed minus_one
unfolding evaluated unary binary shift shifted number_of bits_of
sign_is_left = refl

other_way : value (joined operator.ShiftRight (signed 1) (minus (signed 1))) ≡ is_signed 2
unfolding evaluated unary binary shift shifted number_of bits_of
other_way = refl

rounded_down : value (joined operator.ShiftRight (minus (signed 5)) (signed 1)) ≡ is_signed 18446744073709551613
unfolding evaluated unary binary shift shifted number_of bits_of
rounded_down = refl

-- the least number
abbrev least : Tree
least = joined operator.Subtract (minus (signed 9223372036854775807)) (signed 1)

least_divided : value (joined operator.Divide least (minus (signed 1))) ≡ is_signed 9223372036854775808
unfolding evaluated unary binary converted is_relation result_of number_of bits_of
least_divided = refl

least_remainder : value (joined operator.Remainder least (minus (signed 1))) ≡ is_signed 0
unfolding evaluated unary binary converted is_relation result_of number_of bits_of
least_remainder = refl

cut_towards_zero : value (joined operator.Divide (minus (signed 7)) (signed 2)) ≡ is_signed 18446744073709551613
unfolding evaluated unary binary converted is_relation result_of number_of bits_of
cut_towards_zero = refl

abbrev by_zero : Tree
by_zero = joined operator.Divide (signed 1) (signed 0)

and_skips : value (joined operator.LogicalAnd (signed 0) by_zero) ≡ is_signed 0
unfolding evaluated binary both converted is_relation result_of number_of bits_of
and_skips = refl

choice_skips : value (conditional (signed 1) (signed 2) by_zero) ≡ is_signed 2
unfolding evaluated binary choice converted is_relation result_of number_of bits_of
choice_skips = refl

none_by_zero : value (joined operator.LogicalAnd by_zero (signed 0)) ≡ None
unfolding evaluated binary both converted is_relation result_of number_of bits_of
none_by_zero = refl
