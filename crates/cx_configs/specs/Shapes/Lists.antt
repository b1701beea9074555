-- Lists of names that are found one after another.
use Rattle.std.specs.Prelude.{ℕ, List, [], Bool, false, ◌&&◌, not, Option, Some, None, if◌then◌else◌, bytes_eq, fold, length, map, nat_le}
use Rattle.std.specs.Cmp.Lexicographic.{pointwise}
use Rattle.indexmap.specs.IndexSet.{insert_key}
use Rattle.cx_table.specs.NameTable.{Entries}
use Rattle.cx_lines.specs.Nesting.{Line}
use Rattle.cx_configs.specs.Configurations.{has_names}
use Rattle.cx_configs.specs.Questions.{Name, asked_lists}
use Rattle.cx_configs.specs.Shapes.Sets.{with_names}

-- there are as many lists as there may be
abbrev pub is_full : Option ℕ → List (List Name) → Bool
is_full None lists = false
is_full (Some most) lists = nat_le most (length lists)

-- lists with one more that has names, unless it is there, or they are full
unfoldable pub with_list : Option ℕ → List (List Name) → List Name → List (List Name)
with_list most lists names =
    if has_names names && not (is_full most lists)
    then insert_key (pointwise bytes_eq) lists names else lists

unfoldable pub with_lists : Option ℕ → List (List Name) → List (List Name) → List (List Name)
with_lists most lists more = fold (with_list most) lists more

-- the lists for which lines ask, of names that are not settled
unfoldable pub lists_of : Entries (Unit {0}) → List Line → List (List Name)
lists_of settled lines = map (with_names settled []) (asked_lists [] lines)
