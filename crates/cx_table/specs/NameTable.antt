-- Names with their values, as the list of the pairs.
use Rattle.std.specs.Prelude.{ℕ, List, [], ◌∷◌, Option, if◌then◌else◌, not, map, filter}
use Rattle.std.specs.Prelude.{option_map, position, bytes_eq}
use Rattle.std.specs.List.{IsDistinct, find}

-- names with their values, in the order in which the names came
abbrev pub Entries : Type 0 → Type 0
Entries V = List (List ℕ × V)

module _ {V : Type 0} where
  -- the names
  abbrev pub names_of : Entries V → List (List ℕ)
  names_of entries = map (λ entry. entry.0) entries

  -- no name stands twice
  abbrev pub HasDistinctNames : Entries V → Type 0
  HasDistinctNames entries = IsDistinct bytes_eq (names_of entries)

  -- the value of a name
  unfoldable pub value_of : Entries V → List ℕ → Option V
  value_of entries name =
      option_map (λ entry. entry.1) (find (λ entry. bytes_eq entry.0 name) entries)

  -- the index of a name
  unfoldable pub index_of : Entries V → List ℕ → Option ℕ
  index_of entries name = position (bytes_eq name) (names_of entries)

  -- with this value for this name: in the place of the one that it has, or at the end
  unfoldable pub with_entry : List ℕ → V → Entries V → Entries V
  with_entry name value [] = (name, value) ∷ []
  with_entry name value (entry ∷ rest) =
      if bytes_eq entry.0 name then (name, value) ∷ rest else entry ∷ with_entry name value rest

  -- without this name
  unfoldable pub without_entry : List ℕ → Entries V → Entries V
  without_entry name entries = filter (λ entry. not (bytes_eq entry.0 name)) entries
