-- The names of a comma list.
use Rattle.std.specs.Prelude.{ℕ, List, [], Option, Some, None}
use Rattle.std.specs.List.{slice_split}
use Rattle.std.specs.Borrow.{Bor}
use Rattle.cx_options.specs.Arguments.{is_comma}

-- the names that are left
unfoldable pub names_of : Option (Bor (List ℕ)) → List (List ℕ)
names_of None = []
names_of (Some names) = slice_split is_comma names.now
