-- The members of a folder, in the order in which they are gone through.
use Rattle.std.specs.Prelude.{ℕ, ◌+◌, List, [], ◌∷◌, Bool, fold, codes, nat_eq, slice_get}
use Rattle.std.specs.List.{ends_with, filter_map}
use Rattle.std.specs.Ordering.{ordering_then, nat_cmp}
use Rattle.std.specs.Cmp.Lexicographic.{slice_cmp}
use Rattle.std.specs.BTreeSet.{insert_key as insert_in_order}
use Rattle.std.specs.declared.cmp.Ordering.{Ordering}
use Rattle.cx_base.specs.declared.answers.Entry.{Entry}
use Rattle.cx_base.specs.Simple.{simple_path}
use Rattle.cx_shelf.specs.Searches.{in_folder}

-- a member of a folder: its name, and its number in the answer
abbrev pub Numbered : Type 0
Numbered = List ℕ × ℕ

-- by the bytes of the names, and those of one name by their numbers
abbrev pub numbered_cmp : Numbered → Numbered → Ordering
numbered_cmp one other = ordering_then (slice_cmp nat_cmp one.0 other.0) (nat_cmp one.1 other.1)

-- members with their numbers, from a number on
unfoldable pub numbered : ℕ → List Entry → List Numbered
numbered n [] = []
numbered n (entry ∷ entries) = (entry.name, n) ∷ numbered (n + 1) entries

-- the members of a folder by the bytes of their names, and those of one name as they were answered
unfoldable pub in_order : List Entry → List Entry
in_order entries =
    filter_map (λ m. slice_get entries m.1)
    (fold (insert_in_order numbered_cmp) [] (numbered 0 entries))

-- the path of a member of a folder
abbrev pub member_path : List ℕ → List ℕ → List ℕ
member_path folder name = simple_path (in_folder folder name)

-- the name of a C source ends in `.c`
abbrev pub is_source : List ℕ → Bool
is_source name = ends_with nat_eq name (codes ".c")
