-- Names that are put into a set of names.
use Rattle.std.specs.Prelude.{List, Bool, not, is_some, fold, filter}
use Rattle.std.specs.List.{list_any}
use Rattle.std.specs.Ordering.{is_eq, nat_cmp}
use Rattle.std.specs.Cmp.Lexicographic.{slice_cmp}
use Rattle.std.specs.BTreeSet.{insert_key as insert_in_order}
use Rattle.cx_table.specs.NameTable.{Entries, value_of, with_entry}
use Rattle.cx_configs.specs.Questions.{Name}

-- a name more, in the order of the bytes, unless it is there
abbrev pub with_name : List Name → Name → List Name
with_name names name = insert_in_order (slice_cmp nat_cmp) names name

abbrev pub with_all : List Name → List Name → List Name
with_all names more = fold with_name names more

-- a name is one of names
abbrev pub holds : List Name → Name → Bool
holds names name = list_any (λ n. is_eq (slice_cmp nat_cmp name n)) names

-- those of other names that names lack
abbrev pub lacking : List Name → List Name → List Name
lacking names others = filter (λ n. not (holds names n)) others

-- a name is settled
abbrev pub is_settled : Entries (Unit {0}) → Name → Bool
is_settled settled name = is_some (value_of settled name)

-- names with others, but those that are settled
unfoldable pub with_names : Entries (Unit {0}) → List Name → List Name → List Name
with_names settled set names = fold with_name set (filter (λ n. not (is_settled settled n)) names)

-- settled names with one more
abbrev pub with_settled : Entries (Unit {0}) → Name → Entries (Unit {0})
with_settled settled name = with_entry name tt settled

unfoldable pub with_all_settled : Entries (Unit {0}) → List Name → Entries (Unit {0})
with_all_settled settled names = fold with_settled settled names
