-- The sign of a number, and its bits.
use Rattle.std.specs.Prelude.{ℕ, ℤ, pos, negsuc, Bool, true, false, not, ◌&&◌, nat_le}

abbrev pub is_below_zero : ℤ → Bool
is_below_zero (pos n) = false
is_below_zero (negsuc n) = true

-- the same of bits: they are signed, and their highest one is set
abbrev pub has_sign : Bool → ℕ → Bool
has_sign is_unsigned bits = not is_unsigned && nat_le 9223372036854775808 bits
