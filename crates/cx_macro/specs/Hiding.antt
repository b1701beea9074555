-- Hide sets: the macros that are not to replace a token any more.
use Rattle.std.specs.Prelude.{ℕ, List, [], ◌∷◌, ◌++◌, Bool, not, filter, bytes_eq}
use Rattle.std.specs.List.{list_any}

abbrev pub is_among : List (List ℕ) → List ℕ → Bool
is_among names name = list_any (bytes_eq name) names

-- the names of both
unfoldable pub common : List (List ℕ) → List (List ℕ) → List (List ℕ)
common names others = filter (is_among others) names

-- the names of either
unfoldable pub united : List (List ℕ) → List (List ℕ) → List (List ℕ)
united names others = names ++ filter (λ name. not (is_among names name)) others

abbrev pub with_name : List ℕ → List (List ℕ) → List (List ℕ)
with_name name names = united names (name ∷ [])
