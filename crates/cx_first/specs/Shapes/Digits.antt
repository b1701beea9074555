-- The value of a number, digit by digit: joined to Numbers by proofs/Digits.
use Rattle.std.specs.Prelude.{ℕ, ◌+◌, ◌-◌, ◌*◌, List, [], ◌∷◌, Bool, true, false, cond, ◌&&◌, ◌==◌, nat_le, Option, Some, None}
use Rattle.cx_lex.specs.Characters.{is_digit}
use Rattle.cx_first.specs.Numbers.{greatest}

-- whether a list has members
abbrev pub is_longer : List ℕ → Bool
is_longer [] = false
is_longer (b ∷ bs) = true

-- a digit that leaves a value within the range of `int`
unfoldable pub takes_digit : ℕ → ℕ → Bool
takes_digit value b = is_digit b && nat_le (10 * value + (b - 48)) greatest

-- the value behind these digits
unfoldable pub digits_from : ℕ → List ℕ → Option ℕ
digits_from value [] = Some value
digits_from value (b ∷ bs) =
    cond (takes_digit value b) (digits_from (10 * value + (b - 48)) bs) None

-- the value of a decimal constant
unfoldable pub value_of : List ℕ → Option ℕ
value_of [] = None
value_of (b ∷ bs) = cond ((b == 48) && is_longer bs) None (digits_from 0 (b ∷ bs))
