-- Integer constants (C11 6.4.4.1) and character constants (6.4.4.4).
use Rattle.std.specs.Prelude.{ℕ, ◌==◌, List, [], ◌∷◌, Bool, true, false, ◌&&◌, ◌||◌, if◌then◌else◌, nat_le, Option, Some, None, option_map, option_and_then, length, drop, codes, bytes_eq, find}
use Rattle.cx_condition.specs.declared.digits.Base.{Base}
use Rattle.cx_condition.specs.declared.digits.Base.TheVariants.{Octal, Decimal, Hexadecimal}
use Rattle.cx_condition.specs.declared.integer.IntegerConstant.{IntegerConstant}
use Rattle.cx_condition.specs.declared.integer.Suffix.{Suffix}
use Rattle.cx_condition.specs.declared.integer.Length.{Length}
use Rattle.cx_condition.specs.declared.integer.Length.TheVariants.{Plain, Long, LongLong}
use Rattle.cx_condition.specs.Digits.{after_digits, begins_with_digit, digits_of, digits_value, is_digit}

-- hexadecimal-prefix: 0x or 0X
unfoldable pub begins_hexadecimal : List ℕ → Bool
begins_hexadecimal (a ∷ b ∷ rest) = (a == 48) && ((b == 120) || (b == 88))
begins_hexadecimal _ = false

unfoldable pub begins_with_zero : List ℕ → Bool
begins_with_zero [] = false
begins_with_zero (a ∷ rest) = a == 48

-- the base, as the front of a constant tells it
abbrev pub base_of : List ℕ → Base
base_of text =
    if begins_hexadecimal text then Hexadecimal
    else if begins_with_zero text then Octal else Decimal

-- the constant without its prefix
abbrev pub body_of : List ℕ → List ℕ
body_of text = if begins_hexadecimal text then drop 2 text else text

-- unsigned-suffix: u or U
abbrev pub is_unsigned_suffix : ℕ → Bool
is_unsigned_suffix b = (b == 117) || (b == 85)

-- a front of a text that tells a length, and what is behind it
pub record LongFront : Type 0 where
  pub length : Length
  pub rest : List ℕ

abbrev pub long_front_of : Length → List ℕ → LongFront
long_front_of length rest = record { length = length; rest = rest }

-- behind a letter l or L: the letter once more makes it long long
abbrev pub after_letter : ℕ → List ℕ → LongFront
after_letter a [] = long_front_of Long []
after_letter a (b ∷ bs) =
    if a == b then long_front_of LongLong bs else long_front_of Long (b ∷ bs)

-- long-suffix (l or L) or long-long-suffix (ll or LL) in front of a text, or neither
unfoldable pub long_front : List ℕ → LongFront
long_front [] = long_front_of Plain []
long_front (a ∷ bs) =
    if (a == 108) || (a == 76) then after_letter a bs else long_front_of Plain (a ∷ bs)

abbrev pub suffix : Bool → Length → Option Suffix
suffix is_unsigned length = Some (record { is_unsigned = is_unsigned; length = length })

-- nothing is left of an integer-suffix
abbrev pub unsigned_ended : LongFront → Option Suffix
unsigned_ended front = ended front.length front.rest
  where
    ended : Length → List ℕ → Option Suffix
    ended length [] = suffix true length
    ended length (b ∷ bs) = None

-- at most an unsigned-suffix is left of one
abbrev pub unsigned_or_ended : LongFront → Option Suffix
unsigned_or_ended front = ended front.length front.rest
  where
    ended : Length → List ℕ → Option Suffix
    ended length [] = suffix false length
    ended length (b ∷ []) = if is_unsigned_suffix b then suffix true length else None
    ended length (b ∷ c ∷ bs) = None

-- an integer-suffix, or none: an unsigned-suffix and a length may stand in either order
unfoldable pub suffix_of : List ℕ → Option Suffix
suffix_of [] = suffix false Plain
suffix_of (b ∷ bs) =
    if is_unsigned_suffix b then unsigned_ended (long_front bs)
    else unsigned_or_ended (long_front (b ∷ bs))

-- a constant of a base, a value and the suffix that a text spells
unfoldable pub suffixed : Base → ℕ → List ℕ → Option IntegerConstant
suffixed base value text =
    option_map
    (λ s. record { value = value; base = base; is_unsigned = s.is_unsigned; length = s.length })
    (suffix_of text)

-- digits and a suffix
unfoldable pub constant_of : Base → List ℕ → Option IntegerConstant
constant_of base text =
    if begins_with_digit base text
    && nat_le (digits_value base (digits_of base text)) 18446744073709551615
    then suffixed base (digits_value base (digits_of base text)) (after_digits base text)
    else None

-- integer-constant, of a value that 64 bits hold
unfoldable pub integer_constant : List ℕ → Option IntegerConstant
integer_constant text = constant_of (base_of text) (body_of text)

-- the quote that ends a character constant
unfoldable pub closed : ℕ → List ℕ → Option ℕ
closed value text = if bytes_eq text (codes "'") then Some value else None

-- simple-escape-sequence: the value of its letter
unfoldable pub simple_escape : ℕ → Option ℕ
simple_escape b =
    if (b == 39) || (b == 34) || (b == 63) || (b == 92) then Some b
    else if b == 97 then Some 7
    else if b == 98 then Some 8
    else if b == 102 then Some 12
    else if b == 110 then Some 10
    else if b == 114 then Some 13
    else if b == 116 then Some 9
    else if b == 118 then Some 11
    else None

-- the digits of an octal or hexadecimal escape sequence, of a value that a byte holds
unfoldable pub numeric_escape : Base → List ℕ → Option ℕ
numeric_escape base text =
    if begins_with_digit base text && nat_le (digits_value base (digits_of base text)) 255
    then closed (digits_value base (digits_of base text)) (after_digits base text)
    else None

-- what is behind the backslash of an escape-sequence: `x` and hexadecimal digits, one to three
-- octal digits (behind the first stand two more and the quote at most), or a letter
unfoldable pub escape : List ℕ → Option ℕ
escape [] = None
escape (b ∷ bs) =
    if b == 120 then numeric_escape Hexadecimal bs
    else if is_digit Octal b then
    (if nat_le (length bs) 3 then numeric_escape Octal (b ∷ bs) else None)
    else option_and_then (λ value. closed value bs) (simple_escape b)

-- what is behind the quote: one byte that is no quote, or an escape-sequence
unfoldable pub content : List ℕ → Option ℕ
content [] = None
content (b ∷ bs) =
    if b == 92 then escape bs
    else if b == 39 then None
    else closed b bs

-- the byte that a character-constant of one byte is
unfoldable pub character_value : List ℕ → Option ℕ
character_value [] = None
character_value (b ∷ bs) = if b == 39 then content bs else None
