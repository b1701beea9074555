-- Lists of names by their numbers, and how they were found within one another.
use Rattle.std.specs.Prelude.{◌≡◌, ℕ, List, [], true, Option, Some, None, is_some, slice_get}
use Rattle.std.specs.List.{AllByRecursion}
use Rattle.cx_configs.specs.Questions.{Name}
use Rattle.cx_configs.specs.Shapes.Sets.{with_all}

abbrev pub names_in : Option (List Name) → List Name
names_in None = []
names_in (Some names) = names

-- the names of the list with a number, and none where there is no number
abbrev pub names_at : List (List Name) → Option ℕ → List Name
names_at lists None = []
names_at lists (Some number) = names_in (slice_get lists number)

-- a number is that of a list, or there is none
abbrev pub IsListed : List (List Name) → Option ℕ → Type 0
IsListed lists None = Unit {0}
IsListed lists (Some number) = is_some (slice_get lists number) ≡ true

-- How a list was found: the number of a list within which it stands, the names that it has besides,
-- and its own number.
pub record Found : Type 0 where
  pub around : Option ℕ
  pub added : List Name
  pub number : ℕ

pub record IsFound (lists : List (List Name)) (found : Found) : Type 0 where
  pub around : IsListed lists found.around
  pub listed : IsListed lists (Some found.number)
  pub names : names_at lists (Some found.number)
      ≡ with_all (names_at lists found.around) found.added

abbrev pub AreFound : List (List Name) → List Found → Type 0
AreFound lists all = AllByRecursion (IsFound lists) all
