-- Classes of characters of a source (C11 5.2.1), by their codes.
use Rattle.std.specs.Prelude.{ℕ, List, Bool, ◌&&◌, ◌||◌, ◌==◌, nat_le, codes}
use Rattle.std.specs.List.{list_any}

-- one of the characters of a list
abbrev pub is_one_of : List ℕ → ℕ → Bool
is_one_of characters b = list_any (λ c. b == c) characters

-- a digit, `0` (48) to `9` (57) (C11 5.2.1)
unfoldable pub is_digit : ℕ → Bool
is_digit b = nat_le 48 b && nat_le b 57

-- a nondigit: a letter, `A` (65) to `Z` (90) or `a` (97) to `z` (122), or `_` (C11 6.4.2.1)
unfoldable pub is_nondigit : ℕ → Bool
is_nondigit b =
    ((nat_le 65 b && nat_le b 90) || (nat_le 97 b && nat_le b 122)) || is_one_of (codes "_") b

-- what an identifier has after its first character (C11 6.4.2.1)
unfoldable pub is_word : ℕ → Bool
is_word b = is_nondigit b || is_digit b
