-- Digits of constants (C11 6.4.4.1).
use Rattle.std.specs.Prelude.{ℕ, ◌+◌, ◌-◌, ◌*◌, List, [], ◌∷◌, Bool, true, false, ◌&&◌, if◌then◌else◌, nat_le, nat_lt, fold, length}
use Rattle.cx_condition.specs.declared.digits.Base.{Base}
use Rattle.cx_condition.specs.declared.digits.Base.TheVariants.{Octal, Decimal, Hexadecimal}

abbrev pub radix : Base → ℕ
radix Octal = 8
radix Decimal = 10
radix Hexadecimal = 16

-- what a digit counts: 0 to 9, then a to f or A to F; 16 for what is no digit
unfoldable pub digit_of : ℕ → ℕ
digit_of b =
    if nat_le 48 b && nat_le b 57 then b - 48
    else if nat_le 97 b && nat_le b 102 then b - 97 + 10
    else if nat_le 65 b && nat_le b 70 then b - 65 + 10
    else 16

-- a digit of a base
unfoldable pub is_digit : Base → ℕ → Bool
is_digit base b = nat_lt (digit_of b) (radix base)

unfoldable pub begins_with_digit : Base → List ℕ → Bool
begins_with_digit base [] = false
begins_with_digit base (b ∷ bs) = is_digit base b

-- the digits in front of a text
unfoldable pub digits_of : Base → List ℕ → List ℕ
digits_of base [] = []
digits_of base (b ∷ bs) = if is_digit base b then b ∷ digits_of base bs else []

-- what is behind them
unfoldable pub after_digits : Base → List ℕ → List ℕ
after_digits base [] = []
after_digits base (b ∷ bs) = if is_digit base b then after_digits base bs else b ∷ bs

-- the value of digits
unfoldable pub digits_value : Base → List ℕ → ℕ
digits_value base digits = fold (λ n b. radix base * n + digit_of b) 0 digits
