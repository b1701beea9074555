-- What holds of the lists of names of configurations.
use Rattle.std.proofs.Common.{◌≡◌, ◌≤◌, ℕ, ◌+◌, ◌-◌, List, [], ◌∷◌, Bool, true, false, Option, Some, None, refl, map, length, arith}
use Rattle.std.specs.Prelude.{not, if◌then◌else◌, All, bytes_eq, filter}
use Rattle.std.specs.List.{AllByRecursion, IsDistinct, flat_map}
use Rattle.std.specs.List.Sorted.{IsStrictlySortedBy}
use Rattle.std.specs.Ordering.{nat_cmp}
use Rattle.std.specs.Option.{option_map}
use Rattle.std.specs.Cmp.Lexicographic.{pointwise, slice_cmp}
use Rattle.std.proofs.lemmas.List.{length-take}
use Rattle.std.proofs.lemmas.List.Elements.{All-from_recursion}
use Rattle.cx_lines.specs.Nesting.{Line}
use Rattle.cx_configs.specs.Configurations.{first_ones, has_names, is_among, name_lists, open_names, sorted, up_to}
use Rattle.cx_configs.specs.Questions.{Name, asked_lists}
use Rattle.cx_configs.proofs.OrderLaws.{all_after, all_lists_after, all_taken, ascends_after, distinct_after, distinct_taken, first_are_not_empty, not_empty}

all_up_to : (P : List Name → Type 0) (most : Option ℕ) (xs : List (List Name)) → AllByRecursion P xs
    → AllByRecursion P (up_to most xs)
all_up_to P None xs all = all
all_up_to P (Some n) xs all = all_taken P n xs all

distinct_up_to : (most : Option ℕ) (xs : List (List Name)) → IsDistinct (pointwise bytes_eq) xs
    → IsDistinct (pointwise bytes_eq) (up_to most xs)
distinct_up_to None xs h = h
distinct_up_to (Some n) xs h = distinct_taken n xs h

pub lists_are_distinct : (bound : Option ℕ) (settled : List Name) (files : List (List Line))
    → IsDistinct (pointwise bytes_eq) (name_lists bound settled files)
unfolding name_lists IsDistinct
lists_are_distinct bound settled files =
    let lists = map (open_names settled) (flat_map (asked_lists []) files) in
    let most = option_map (λ n. n - 1) bound in (
      all_up_to (λ l. pointwise bytes_eq [] l ≡ false) most (first_ones lists)
          (not_empty (first_ones lists) (first_are_not_empty lists)),
      distinct_up_to most (first_ones lists) (distinct_after [] (filter has_names lists) tt),
    )

all_kept : (P : List Name → Type 0) (lists : List (List Name)) → AllByRecursion P lists
    → AllByRecursion P (filter has_names lists)
all_kept P [] all = tt
all_kept P (l ∷ ls) all = by (has_names l) (all_kept P ls all.1)
  where
    by : (b : Bool) → AllByRecursion P (filter has_names ls)
        → AllByRecursion P (if b then l ∷ filter has_names ls else filter has_names ls)
    by true rest = (all.0, rest)
    by false rest = rest

all_mapped : (P : List Name → Type 0) (f : List Name → List Name) → ((l : List Name) → P (f l))
    → (ls : List (List Name)) → AllByRecursion P (map f ls)
all_mapped P f each [] = tt
all_mapped P f each (l ∷ ls) = (each l, all_mapped P f each ls)

-- what holds of the empty list, and of what is open of each list
all_lists : (P : List Name → Type 0) (bound : Option ℕ) (settled : List Name) (files : List (List Line))
    → P [] → ((l : List Name) → P (open_names settled l)) → All P (name_lists bound settled files)
unfolding name_lists
all_lists P bound settled files none each =
    let lists = map (open_names settled) (flat_map (asked_lists []) files) in
    All-from_recursion P (name_lists bound settled files) (
      none,
      all_up_to P (option_map (λ n. n - 1) bound) (first_ones lists)
          (all_lists_after P [] (filter has_names lists) tt
          (all_kept P lists (all_mapped P (open_names settled) each (flat_map (asked_lists []) files)))),
    )

pub lists_ascend : (bound : Option ℕ) (settled : List Name) (files : List (List Line))
    → All (IsStrictlySortedBy (slice_cmp nat_cmp)) (name_lists bound settled files)
unfolding sorted IsStrictlySortedBy
lists_ascend bound settled files =
    all_lists (IsStrictlySortedBy (slice_cmp nat_cmp)) bound settled files tt
    (λ l. ascends_after [] (filter (λ n. not (is_among settled n)) l) tt)

abbrev IsOpen : List Name → Name → Type 0
IsOpen settled n = is_among settled n ≡ false

all_open : (settled names : List Name)
    → AllByRecursion (λ n. is_among settled n ≡ false) (filter (λ n. not (is_among settled n)) names)
all_open settled [] = tt
all_open settled (m ∷ ms) = by (is_among settled m) refl (all_open settled ms)
  where
    by : (b : Bool) → is_among settled m ≡ b
        → AllByRecursion (λ n. is_among settled n ≡ false) (filter (λ n. not (is_among settled n)) ms)
        → AllByRecursion (λ n. is_among settled n ≡ false)
        (if not b then m ∷ filter (λ n. not (is_among settled n)) ms else filter (λ n. not (is_among settled n)) ms)
    by true e rest = rest
    by false e rest = (e, rest)

pub lists_are_open : (bound : Option ℕ) (settled : List Name) (files : List (List Line))
    → All (All (λ n. is_among settled n ≡ false)) (name_lists bound settled files)
unfolding sorted
lists_are_open bound settled files =
    all_lists (All (λ n. is_among settled n ≡ false)) bound settled files
    (All-from_recursion (λ n. is_among settled n ≡ false) [] tt)
    (λ l. All-from_recursion (λ n. is_among settled n ≡ false) (open_names settled l)
    (all_after (λ n. is_among settled n ≡ false) [] (filter (λ n. not (is_among settled n)) l) tt (all_open settled l)))

pub most_lists : (most : ℕ) (settled : List Name) (files : List (List Line))
    → length (name_lists (Some (most + 1)) settled files) ≤ most + 1
unfolding name_lists
most_lists most settled files =
    let lists = first_ones (map (open_names settled) (flat_map (asked_lists []) files)) in
    omega (arith, length-take (most + 1 - 1) lists)
