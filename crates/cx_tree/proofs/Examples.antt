-- Rows of the definitions of this crate, computed.
use Rattle.std.proofs.Common.{◌≡◌, refl, pos, neg_ℤ, Some, None, false}
use Rattle.cx_tree.specs.declared.types.Platform.TheVariants.{Unix32, Unix64, Win64}
use Rattle.cx_tree.specs.declared.types.IntType.TheVariants as ctype
use Rattle.cx_tree.specs.declared.operators.Op.TheVariants as operator
use Rattle.cx_tree.specs.IntegerTypes.{least, greatest}
use Rattle.cx_tree.specs.ConversionRules.{convert, promote, usual, represents}
use Rattle.cx_tree.specs.Arithmetic.{arith}

-- C11 5.2.4.2.1p1 and 6.2.6.2p2: the ends of the types
least_char : least ctype.Char Unix64 ≡ neg_ℤ (pos 128)
least_char = refl

least_int : least ctype.Int Win64 ≡ neg_ℤ (pos 2147483648)
least_int = refl

greatest_int : greatest ctype.Int Unix32 ≡ pos 2147483647
greatest_int = refl

greatest_bool : greatest ctype.Bool Unix32 ≡ pos 1
greatest_bool = refl

-- the ends of long differ on unix64
greatest_long : greatest ctype.Long Unix64 ≡ pos 9223372036854775807
greatest_long = refl

greatest_long_win64 : greatest ctype.Long Win64 ≡ pos 2147483647
greatest_long_win64 = refl

greatest_unsigned_long : greatest ctype.UnsignedLong Unix64 ≡ pos 18446744073709551615
greatest_unsigned_long = refl

-- C11 6.3.1.1p2: the integer promotions
promote_bool : promote ctype.Bool Unix64 ≡ ctype.Int
unfolding promote
promote_bool = refl

promote_unsigned_char : promote ctype.UnsignedChar Unix64 ≡ ctype.Int
unfolding promote
promote_unsigned_char = refl

promote_unsigned_short : promote ctype.UnsignedShort Unix32 ≡ ctype.Int
unfolding promote
promote_unsigned_short = refl

promote_unsigned_int : promote ctype.UnsignedInt Win64 ≡ ctype.UnsignedInt
unfolding promote
promote_unsigned_int = refl

promote_long : promote ctype.Long Unix64 ≡ ctype.Long
unfolding promote
promote_long = refl

-- an unsigned int has values that an int has not
int_of_unsigned : represents ctype.Int ctype.UnsignedInt Unix64 ≡ false
int_of_unsigned = refl

-- C11 6.3.1.2: any value but 0 is 1 as a _Bool, 256 too
bool_of_256 : convert ctype.Bool Unix64 (pos 256) ≡ pos 1
unfolding convert
bool_of_256 = refl

bool_of_minus_one : convert ctype.Bool Unix64 (neg_ℤ (pos 1)) ≡ pos 1
unfolding convert
bool_of_minus_one = refl

bool_of_zero : convert ctype.Bool Unix64 (pos 0) ≡ pos 0
unfolding convert
bool_of_zero = refl

-- C11 6.3.1.3p2: -1 is the greatest value of an unsigned type
unsigned_of_minus_one : convert ctype.UnsignedInt Unix64 (neg_ℤ (pos 1)) ≡ pos 4294967295
unfolding convert
unsigned_of_minus_one = refl

unsigned_char_of_300 : convert ctype.UnsignedChar Unix64 (pos 300) ≡ pos 44
unfolding convert
unsigned_char_of_300 = refl

-- C11 6.3.1.3p1 and p3: 127 stays, and of others the low bits
signed_char_of_127 : convert ctype.SignedChar Unix64 (pos 127) ≡ pos 127
unfolding convert
signed_char_of_127 = refl

signed_char_of_128 : convert ctype.SignedChar Unix64 (pos 128) ≡ neg_ℤ (pos 128)
unfolding convert
signed_char_of_128 = refl

int_of_two_to_32_less_1 : convert ctype.Int Unix64 (pos 4294967295) ≡ neg_ℤ (pos 1)
unfolding convert
int_of_two_to_32_less_1 = refl

long_of_two_to_32 : convert ctype.Long Unix64 (pos 4294967296) ≡ pos 4294967296
unfolding convert
long_of_two_to_32 = refl

long_of_two_to_32_win64 : convert ctype.Long Win64 (pos 4294967296) ≡ pos 0
unfolding convert
long_of_two_to_32_win64 = refl

-- C11 6.3.1.8p1: unsigned int with long is long where that has 8 bytes, else unsigned long
unsigned_int_with_long : usual ctype.UnsignedInt ctype.Long Unix64 ≡ ctype.Long
unfolding usual promote
unsigned_int_with_long = refl

unsigned_int_with_long_unix32 : usual ctype.UnsignedInt ctype.Long Unix32 ≡ ctype.UnsignedLong
unfolding usual promote
unsigned_int_with_long_unix32 = refl

unsigned_int_with_long_win64 : usual ctype.UnsignedInt ctype.Long Win64 ≡ ctype.UnsignedLong
unfolding usual promote
unsigned_int_with_long_win64 = refl

-- and in the other order
long_with_unsigned_int : usual ctype.Long ctype.UnsignedInt Unix32 ≡ ctype.UnsignedLong
unfolding usual promote
long_with_unsigned_int = refl

-- an unsigned type of greater rank, a signed one, and two that are promoted
unsigned_long_with_int : usual ctype.UnsignedLong ctype.Int Unix64 ≡ ctype.UnsignedLong
unfolding usual promote
unsigned_long_with_int = refl

unsigned_long_with_long_long :
    usual ctype.UnsignedLong ctype.LongLong Unix64 ≡ ctype.UnsignedLongLong
unfolding usual promote
unsigned_long_with_long_long = refl

unsigned_long_with_long_long_win64 : usual ctype.UnsignedLong ctype.LongLong Win64 ≡ ctype.LongLong
unfolding usual promote
unsigned_long_with_long_long_win64 = refl

int_with_unsigned_int : usual ctype.Int ctype.UnsignedInt Unix64 ≡ ctype.UnsignedInt
unfolding usual promote
int_with_unsigned_int = refl

char_with_unsigned_short : usual ctype.Char ctype.UnsignedShort Unix64 ≡ ctype.Int
unfolding usual promote
char_with_unsigned_short = refl

-- C11 6.5p5: the greatest int and 1 have no sum, and 6.2.5p9: an unsigned one is 0
sum_past_int : arith operator.Add ctype.Int Unix64 (pos 2147483647) (pos 1) ≡ None
unfolding arith
sum_past_int = refl

sum_of_unsigned :
    arith operator.Add ctype.UnsignedInt Unix64 (pos 4294967295) (pos 1) ≡ Some (pos 0)
unfolding arith
sum_of_unsigned = refl

sum_of_long : arith operator.Add ctype.Long Unix64 (pos 2147483647) (pos 1) ≡ Some (pos 2147483648)
unfolding arith
sum_of_long = refl

sum_of_long_win64 : arith operator.Add ctype.Long Win64 (pos 2147483647) (pos 1) ≡ None
unfolding arith
sum_of_long_win64 = refl

difference_of_unsigned :
    arith operator.Subtract ctype.UnsignedInt Unix64 (pos 0) (pos 1) ≡ Some (pos 4294967295)
unfolding arith
difference_of_unsigned = refl

-- C11 6.5.3.3p3: the least int has no opposite
negate_least : arith operator.Negate ctype.Int Unix64 (neg_ℤ (pos 2147483648)) (pos 0) ≡ None
unfolding arith
negate_least = refl

-- C11 6.5.5p6: a quotient goes towards zero, and the remainder has the sign of the dividend
quotient : arith operator.Divide ctype.Int Unix64 (neg_ℤ (pos 7)) (pos 2) ≡ Some (neg_ℤ (pos 3))
unfolding arith
quotient = refl

remainder : arith operator.Remainder ctype.Int Unix64 (neg_ℤ (pos 7)) (pos 2) ≡ Some (neg_ℤ (pos 1))
unfolding arith
remainder = refl

remainder_of_negative :
    arith operator.Remainder ctype.Int Unix64 (pos 7) (neg_ℤ (pos 2)) ≡ Some (pos 1)
unfolding arith
remainder_of_negative = refl

-- C11 6.5.5p5 and p6: by 0, and where the quotient is no int
quotient_by_zero : arith operator.Divide ctype.Int Unix64 (pos 1) (pos 0) ≡ None
unfolding arith
quotient_by_zero = refl

remainder_by_zero : arith operator.Remainder ctype.UnsignedInt Unix64 (pos 1) (pos 0) ≡ None
unfolding arith
remainder_by_zero = refl

quotient_past_int :
    arith operator.Divide ctype.Int Unix64 (neg_ℤ (pos 2147483648)) (neg_ℤ (pos 1)) ≡ None
unfolding arith
quotient_past_int = refl

remainder_past_int :
    arith operator.Remainder ctype.Int Unix64 (neg_ℤ (pos 2147483648)) (neg_ℤ (pos 1)) ≡ None
unfolding arith
remainder_past_int = refl

-- C11 6.5.7p3: a shift by the width, and by less than 0
shift_by_width : arith operator.ShiftLeft ctype.UnsignedInt Unix64 (pos 1) (pos 32) ≡ None
unfolding arith promote
shift_by_width = refl

shift_by_minus_one : arith operator.ShiftRight ctype.Int Unix64 (pos 1) (neg_ℤ (pos 1)) ≡ None
unfolding arith promote
shift_by_minus_one = refl

shift_of_long : arith operator.ShiftLeft ctype.Long Unix64 (pos 1) (pos 32) ≡ Some (pos 4294967296)
unfolding arith promote
shift_of_long = refl

shift_of_long_win64 : arith operator.ShiftLeft ctype.Long Win64 (pos 1) (pos 32) ≡ None
unfolding arith promote
shift_of_long_win64 = refl

-- C11 6.5.7p4: past the greatest int, of an unsigned int, and of a negative value
shift_past_int : arith operator.ShiftLeft ctype.Int Unix64 (pos 1) (pos 31) ≡ None
unfolding arith promote
shift_past_int = refl

shift_of_unsigned :
    arith operator.ShiftLeft ctype.UnsignedInt Unix64 (pos 3) (pos 31) ≡ Some (pos 2147483648)
unfolding arith promote
shift_of_unsigned = refl

shift_of_negative : arith operator.ShiftLeft ctype.Int Unix64 (neg_ℤ (pos 1)) (pos 0) ≡ None
unfolding arith promote
shift_of_negative = refl

-- C11 6.5.7p5: a negative value to the right, rounded down
shift_right_of_negative :
    arith operator.ShiftRight ctype.Int Unix64 (neg_ℤ (pos 7)) (pos 1) ≡ Some (neg_ℤ (pos 4))
unfolding arith promote
shift_right_of_negative = refl

-- C11 6.5.10 to 6.5.12 and 6.5.3.3p4: bits
bits_of_both : arith operator.BitAnd ctype.Int Unix64 (neg_ℤ (pos 1)) (pos 255) ≡ Some (pos 255)
unfolding arith convert
bits_of_both = refl

bits_of_one : arith operator.BitXor ctype.Int Unix64 (neg_ℤ (pos 1)) (pos 0) ≡ Some (neg_ℤ (pos 1))
unfolding arith convert
bits_of_one = refl

bits_of_either : arith operator.BitOr ctype.UnsignedInt Unix64 (pos 12) (pos 10) ≡ Some (pos 14)
unfolding arith convert
bits_of_either = refl

complement_of_zero :
    arith operator.Complement ctype.UnsignedInt Unix64 (pos 0) (pos 0) ≡ Some (pos 4294967295)
unfolding arith
complement_of_zero = refl

-- C11 6.5.8p6 and 6.5.9p3: comparisons
less : arith operator.Less ctype.Int Unix64 (neg_ℤ (pos 1)) (pos 0) ≡ Some (pos 1)
unfolding arith
less = refl

not_equal : arith operator.NotEqual ctype.Int Unix64 (pos 3) (pos 3) ≡ Some (pos 0)
unfolding arith
not_equal = refl
