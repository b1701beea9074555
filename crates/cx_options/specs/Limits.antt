-- The limits of a command line.
use Rattle.std.specs.Prelude.{ℕ, Bool, ◌&&◌, nat_le, List, length}
use Rattle.std.specs.List.{list_all}

-- the most words, and the most bytes of a word
abbrev pub most_words : ℕ
most_words = 4294967294

abbrev pub is_in_bounds : List ℕ → Bool
is_in_bounds word = nat_le (length word) most_words

-- there are at most so many words, with at most as many bytes each
abbrev pub are_in_bounds : List (List ℕ) → Bool
are_in_bounds words = nat_le (length words) most_words && list_all is_in_bounds words
