-- Digits are read one by one.
use Rattle.std.specs.Prelude.{ℕ, ◌+◌, ◌*◌, List, [], ◌∷◌, if◌then◌else◌, nat_le, Option, Some, None, option_and_then}
use Rattle.cx_condition.specs.declared.digits.Base.{Base}
use Rattle.cx_condition.specs.Digits.{digit_of, is_digit, radix}

-- a value with one digit more, where 64 bits hold it
unfoldable pub grown : Base → ℕ → ℕ → Option ℕ
grown base n b =
    if nat_le (radix base * n + digit_of b) 18446744073709551615
    then Some (radix base * n + digit_of b) else None

unfoldable pub digits_read : Base → ℕ → List ℕ → Option (ℕ × List ℕ)
digits_read base n [] = Some (n, [])
digits_read base n (b ∷ bs) =
    if is_digit base b then option_and_then (λ m. digits_read base m bs) (grown base n b)
    else Some (n, b ∷ bs)
