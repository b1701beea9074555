-- How C11 (ISO/IEC 9899:2011) 6.3.1 converts values between integer types, and to which type two
-- operands are converted.
use Rattle.std.specs.Prelude.{ℕ, ℤ, pos, ◌-ℤ◌, Bool, ◌&&◌, if◌then◌else◌, nat_le, nat_lt, int_le, int_lt}
use Rattle.std.specs.Ordering.{int_eq}
use Rattle.std.specs.Int.{int_rem_euclid}
use Rattle.cx_tree.specs.declared.types.Platform.{Platform}
use Rattle.cx_tree.specs.declared.types.IntType.{IntType}
use Rattle.cx_tree.specs.declared.types.IntType.TheVariants as ctype
use Rattle.cx_tree.specs.declared.types.Kind.{Kind}
use Rattle.cx_tree.specs.declared.types.Kind.TheVariants.{Boolean, Signed, Unsigned}
use Rattle.cx_tree.specs.declared.types.Width.{Width}
use Rattle.cx_tree.specs.IntegerTypes.{kind, width, span, sign_bit, least, greatest}

-- the number below 2 to the power N that differs from x by a multiple of it
abbrev pub low_bits : Width → ℤ → ℤ
low_bits w x = int_rem_euclid x (pos (span w))

-- C11 6.2.6.2p2: the value that N bits have in two's complement
abbrev pub signed_value : Width → ℤ → ℤ
signed_value w r = if int_lt r (pos (sign_bit w)) then r else r -ℤ pos (span w)

-- C11 6.3.1.2 (to _Bool), 6.3.1.3p2 (to an unsigned type) and p3 (to a signed type: the low bits
-- stay)
abbrev pub convert_to : Kind → Width → ℤ → ℤ
convert_to Boolean w x = if int_eq x (pos 0) then pos 0 else pos 1
convert_to Signed w x = signed_value w (low_bits w x)
convert_to Unsigned w x = low_bits w x

-- C11 6.3.1.3p1: the value of type t that x becomes
unfoldable pub convert : IntType → Platform → ℤ → ℤ
convert t p x = convert_to (kind t) (width t p) x

-- C11 6.3.1.1p1: the order of the ranks
abbrev pub rank : IntType → ℕ
rank ctype.Bool = 0
rank ctype.Char = 1
rank ctype.SignedChar = 1
rank ctype.UnsignedChar = 1
rank ctype.Short = 2
rank ctype.UnsignedShort = 2
rank ctype.Int = 3
rank ctype.UnsignedInt = 3
rank ctype.Long = 4
rank ctype.UnsignedLong = 4
rank ctype.LongLong = 5
rank ctype.UnsignedLongLong = 5

-- each value of type u is one of type t
abbrev pub represents : IntType → IntType → Platform → Bool
represents t u p = int_le (least t p) (least u p) && int_le (greatest u p) (greatest t p)

-- C11 6.3.1.1p2: the integer promotions
unfoldable pub promote : IntType → Platform → IntType
promote t p =
    if nat_lt (rank t) (rank ctype.Int)
    then (if represents ctype.Int t p then ctype.Int else ctype.UnsignedInt)
    else t

-- C11 6.2.5p6: the unsigned type that corresponds to a promoted type
abbrev pub unsigned_of : IntType → IntType
unsigned_of ctype.Int = ctype.UnsignedInt
unsigned_of ctype.Long = ctype.UnsignedLong
unsigned_of ctype.LongLong = ctype.UnsignedLongLong
unsigned_of t = t

-- C11 6.3.1.8p1: of two types that are both signed or both unsigned, the one of greater rank
abbrev pub greater_rank : IntType → IntType → IntType
greater_rank a b = if nat_lt (rank a) (rank b) then b else a

-- C11 6.3.1.8p1: of an unsigned and a signed type, the unsigned one where its rank is as great,
-- else the signed one where that has all values of the other, else the unsigned type that
-- corresponds to it
abbrev pub of_mixed : IntType → IntType → Platform → IntType
of_mixed u s p =
    if nat_le (rank s) (rank u)
    then u
    else (if represents s u p then s else unsigned_of s)

-- C11 6.3.1.8p1: the choice between those two rules
abbrev pub common_of : Kind → Kind → IntType → IntType → Platform → IntType
common_of Signed Unsigned a b p = of_mixed b a p
common_of Unsigned Signed a b p = of_mixed a b p
common_of _ _ a b p = greater_rank a b

-- C11 6.3.1.8p1: the usual arithmetic conversions, once both operands are promoted
abbrev pub common : IntType → IntType → Platform → IntType
common a b p = common_of (kind a) (kind b) a b p

-- C11 6.3.1.8p1: the common type of two operands, after the promotions
unfoldable pub usual : IntType → IntType → Platform → IntType
usual a b p = common (promote a p) (promote b p) p
