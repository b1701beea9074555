-- The search of an include by a table of the paths.
use Rattle.std.specs.Prelude.{◌≡◌, ℕ, List, [], ◌∷◌, Option, None, Some, if◌then◌else◌, is_some}
use Rattle.cx_table.specs.NameTable.{Entries, value_of, with_entry}
use Rattle.cx_shelf.specs.declared.shelf.Shelf.{Shelf}
use Rattle.cx_shelf.specs.Shelves.{number_of}

-- the entries give each path the number of its file
abbrev pub AreNumbers : Entries ℕ → Shelf → Type 0
AreNumbers entries shelf = (path : List ℕ) → value_of entries path ≡ number_of shelf path

-- entries with a number more, unless its path has one
unfoldable pub with_first : List ℕ → ℕ → Entries ℕ → Entries ℕ
with_first path number entries =
    if is_some (value_of entries path) then entries else with_entry path number entries

-- the number of the first of these paths that has one
unfoldable pub first_among : Entries ℕ → List (List ℕ) → Option ℕ
first_among entries [] = None
first_among entries (path ∷ paths) = or_else (value_of entries path) (first_among entries paths)
  where
    or_else : Option ℕ → Option ℕ → Option ℕ
    or_else None other = other
    or_else (Some n) other = Some n
