-- Decimal constants of type `int` (C11 6.4.4.1).
use Rattle.std.specs.Prelude.{◌≡◌, ℕ, ◌+◌, ◌-◌, ◌*◌, ◌≤◌, List, [], ◌∷◌, true, fold}
use Rattle.std.specs.List.{list_all}
use Rattle.cx_lex.specs.Characters.{is_digit}

-- the value of decimal digits, the first of which is the most significant
abbrev pub number_of : List ℕ → ℕ
number_of text = fold (λ value digit. 10 * value + (digit - 48)) 0 text

-- a decimal constant with no suffix, or `0`
abbrev pub IsDecimal : List ℕ → Type 0
IsDecimal [] = ⊥
IsDecimal (b ∷ bs) = (list_all is_digit (b ∷ bs) ≡ true) × (b ≡ 48 → bs ≡ [])

-- the greatest value of an `int` of 32 bits (C11 5.2.4.2.1)
unfoldable pub greatest : ℕ
greatest = 2147483647

-- a decimal constant that is a value of type `int`
abbrev pub IsIntConstant : List ℕ → Type 0
IsIntConstant text = IsDecimal text × (number_of text ≤ greatest)
