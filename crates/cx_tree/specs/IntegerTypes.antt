-- The integer types of C11 (ISO/IEC 9899:2011) 6.2.5 and their values on each platform (6.2.6.2).
use Rattle.std.specs.Prelude.{ℕ, ◌-◌, ℤ, pos, neg_ℤ}
use Rattle.cx_tree.specs.declared.types.Platform.{Platform}
use Rattle.cx_tree.specs.declared.types.Platform.TheVariants.{Unix32, Unix64, Win64}
use Rattle.cx_tree.specs.declared.types.IntType.{IntType}
use Rattle.cx_tree.specs.declared.types.IntType.TheVariants as ctype
use Rattle.cx_tree.specs.declared.types.Kind.{Kind}
use Rattle.cx_tree.specs.declared.types.Kind.TheVariants.{Boolean, Signed, Unsigned}
use Rattle.cx_tree.specs.declared.types.Width.{Width}
use Rattle.cx_tree.specs.declared.types.Width.TheVariants.{Bits8, Bits16, Bits32, Bits64}

-- C11 6.2.5p2, p4 and p6: which types are signed, with plain char as signed char (6.2.5p15)
abbrev pub kind : IntType → Kind
kind ctype.Bool = Boolean
kind ctype.Char = Signed
kind ctype.SignedChar = Signed
kind ctype.UnsignedChar = Unsigned
kind ctype.Short = Signed
kind ctype.UnsignedShort = Unsigned
kind ctype.Int = Signed
kind ctype.UnsignedInt = Unsigned
kind ctype.Long = Signed
kind ctype.UnsignedLong = Unsigned
kind ctype.LongLong = Signed
kind ctype.UnsignedLongLong = Unsigned

-- C11 6.2.5p6: a type and its unsigned one have the same storage; a long has 8 bytes on unix64
-- alone
abbrev pub width_of_long : Platform → Width
width_of_long Unix32 = Bits32
width_of_long Unix64 = Bits64
width_of_long Win64 = Bits32

-- C11 6.2.6.1p4: the bits of an object, as many as 8 (CHAR_BIT) times its bytes
abbrev pub width : IntType → Platform → Width
width ctype.Bool p = Bits8
width ctype.Char p = Bits8
width ctype.SignedChar p = Bits8
width ctype.UnsignedChar p = Bits8
width ctype.Short p = Bits16
width ctype.UnsignedShort p = Bits16
width ctype.Int p = Bits32
width ctype.UnsignedInt p = Bits32
width ctype.Long p = width_of_long p
width ctype.UnsignedLong p = width_of_long p
width ctype.LongLong p = Bits64
width ctype.UnsignedLongLong p = Bits64

-- C11 6.2.6.2p6: the width as a number
abbrev pub bits : Width → ℕ
bits Bits8 = 8
bits Bits16 = 16
bits Bits32 = 32
bits Bits64 = 64

-- C11 6.2.6.2p1: N bits represent 2 to the power N values
abbrev pub span : Width → ℕ
span Bits8 = 256
span Bits16 = 65536
span Bits32 = 4294967296
span Bits64 = 18446744073709551616

-- C11 6.2.6.2p2: in two's complement the sign bit has the value -(2 to the power N - 1)
abbrev pub sign_bit : Width → ℕ
sign_bit Bits8 = 128
sign_bit Bits16 = 32768
sign_bit Bits32 = 2147483648
sign_bit Bits64 = 9223372036854775808

-- C11 6.2.6.2p1 and p2: the least value of a kind of type
abbrev pub least_of : Kind → Width → ℤ
least_of Boolean w = pos 0
least_of Signed w = neg_ℤ (pos (sign_bit w))
least_of Unsigned w = pos 0

-- C11 6.2.6.2p1 and p2: the greatest value of a kind of type; 1 is that of _Bool (6.3.1.2)
abbrev pub greatest_of : Kind → Width → ℤ
greatest_of Boolean w = pos 1
greatest_of Signed w = pos (sign_bit w - 1)
greatest_of Unsigned w = pos (span w - 1)

-- C11 5.2.4.2.1p1: the least value of each type, and of _Bool (6.2.5p2)
abbrev pub least : IntType → Platform → ℤ
least t p = least_of (kind t) (width t p)

-- C11 5.2.4.2.1p1: the greatest value of each type, and of _Bool (6.2.5p2)
abbrev pub greatest : IntType → Platform → ℤ
greatest t p = greatest_of (kind t) (width t p)
