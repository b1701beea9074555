-- Lists of names ascend, and no two are the same.
use Rattle.std.proofs.Common.{◌≡◌, ℕ, zero, suc, List, [], ◌∷◌, ◌++◌, Bool, true, false, Ordering, refl, sym, ap, ◌∙◌, true≢false}
use Rattle.std.specs.Prelude.{◌&&◌, ◌||◌, if◌then◌else◌, bytes_eq, filter, fold, take}
use Rattle.std.specs.List.{AllByRecursion, IsDistinct, list_any}
use Rattle.std.specs.List.Sorted.{IsStrictlySortedBy}
use Rattle.std.specs.Ordering.{match_ordering, nat_cmp, ordering_reverse}
use Rattle.std.specs.declared.cmp.Ordering.TheVariants.{Less, Equal, Greater}
use Rattle.std.specs.Cmp.Lexicographic.{pointwise, slice_cmp}
use Rattle.std.proofs.lemmas.Cmp.{nat_list_cmp_total}
use Rattle.indexmap.specs.IndexSet.{insert_all, insert_key}
use Rattle.cx_table.proofs.EntryLaws.{bytes_eq-sym}
use Rattle.cx_configs.specs.Shapes.Sets.{with_name}
use Rattle.cx_configs.specs.Questions.{Name}
use Rattle.cx_configs.specs.Configurations.{has_names}

by_ordering : {P : Type 0} (o : Ordering) → (o ≡ Less → P) → (o ≡ Equal → P) → (o ≡ Greater → P) → P
by_ordering Less a b c = a refl
by_ordering Equal a b c = b refl
by_ordering Greater a b c = c refl

below_lower : (k x : Name) (ys : List Name) → slice_cmp nat_cmp k x ≡ Less
    → AllByRecursion (λ y. slice_cmp nat_cmp x y ≡ Less) ys → AllByRecursion (λ y. slice_cmp nat_cmp k y ≡ Less) ys
below_lower k x [] l all = tt
below_lower k x (y ∷ ys) l all =
    (nat_list_cmp_total.trans k x y l all.0, below_lower k x ys l all.1)

pub all_with_name : (P : Name → Type 0) (ks : List Name) (k : Name) → AllByRecursion P ks → P k
    → AllByRecursion P (with_name ks k)
all_with_name P [] k all p = (p, tt)
all_with_name P (x ∷ xs) k all p = by (slice_cmp nat_cmp k x) (all_with_name P xs k all.1 p)
  where
    by : (o : Ordering) → AllByRecursion P (with_name xs k)
        → AllByRecursion P (match_ordering o (k ∷ x ∷ xs) (x ∷ xs) (x ∷ with_name xs k))
    by Less rest = (p, all)
    by Equal rest = all
    by Greater rest = (all.0, rest)

reversed : (k x : Name) → slice_cmp nat_cmp k x ≡ Greater → slice_cmp nat_cmp x k ≡ Less
reversed k x e = nat_list_cmp_total.antisymm x k ∙ ap ordering_reverse e

ascends_with : (ks : List Name) (k : Name) → IsStrictlySortedBy (slice_cmp nat_cmp) ks
    → IsStrictlySortedBy (slice_cmp nat_cmp) (with_name ks k)
unfolding IsStrictlySortedBy
ascends_with [] k h = (tt, tt)
ascends_with (x ∷ xs) k h = by (slice_cmp nat_cmp k x) refl (ascends_with xs k h.1)
  where
    by : (o : Ordering) → slice_cmp nat_cmp k x ≡ o
        → IsStrictlySortedBy (slice_cmp nat_cmp) (with_name xs k)
        → IsStrictlySortedBy (slice_cmp nat_cmp) (match_ordering o (k ∷ x ∷ xs) (x ∷ xs) (x ∷ with_name xs k))
    by Less e rest = ((e, below_lower k x xs e h.0), h)
    by Equal e rest = h
    by Greater e rest = (all_with_name (λ y. slice_cmp nat_cmp x y ≡ Less) xs k h.0 (reversed k x e), rest)

pub ascends_after : (ks names : List Name) → IsStrictlySortedBy (slice_cmp nat_cmp) ks
    → IsStrictlySortedBy (slice_cmp nat_cmp) (fold with_name ks names)
ascends_after ks [] h = h
ascends_after ks (n ∷ ns) h = ascends_after (with_name ks n) ns (ascends_with ks n h)

pub all_after : (P : Name → Type 0) (ks names : List Name) → AllByRecursion P ks → AllByRecursion P names
    → AllByRecursion P (fold with_name ks names)
all_after P ks [] h all = h
all_after P ks (n ∷ ns) h all = all_after P (with_name ks n) ns (all_with_name P ks n h all.0) all.1

-- lists of names are the same both ways
same_back : (a b : List Name) → pointwise bytes_eq a b ≡ pointwise bytes_eq b a
same_back [] [] = refl
same_back [] (y ∷ ys) = refl
same_back (x ∷ xs) [] = refl
same_back (x ∷ xs) (y ∷ ys) =
    ap (λ b. b && pointwise bytes_eq xs ys) (bytes_eq-sym x y)
    ∙ ap (λ b. bytes_eq y x && b) (same_back xs ys)

or_left : (a b : Bool) → (a || b) ≡ false → a ≡ false
or_left true b e = absurd (true≢false e)
or_left false b e = refl

or_right : (a b : Bool) → (a || b) ≡ false → b ≡ false
or_right true b e = absurd (true≢false e)
or_right false b e = e

all_push : (P : List Name → Type 0) (ls : List (List Name)) (l : List Name) → AllByRecursion P ls → P l
    → AllByRecursion P (ls ++ l ∷ [])
all_push P [] l all p = (p, tt)
all_push P (x ∷ xs) l all p = (all.0, all_push P xs l all.1 p)

distinct_push : (ls : List (List Name)) (l : List Name) → IsDistinct (pointwise bytes_eq) ls
    → list_any (pointwise bytes_eq l) ls ≡ false → IsDistinct (pointwise bytes_eq) (ls ++ l ∷ [])
unfolding IsDistinct
distinct_push [] l h none = (tt, tt)
distinct_push (x ∷ xs) l h none = (
  all_push (λ y. pointwise bytes_eq x y ≡ false) xs l h.0 (same_back x l ∙ or_left _ _ none),
  distinct_push xs l h.1 (or_right _ _ none),
)

distinct_with : (ls : List (List Name)) (l : List Name) → IsDistinct (pointwise bytes_eq) ls
    → IsDistinct (pointwise bytes_eq) (insert_key (pointwise bytes_eq) ls l)
distinct_with ls l h = by (list_any (pointwise bytes_eq l) ls) refl
  where
    by : (b : Bool) → list_any (pointwise bytes_eq l) ls ≡ b
        → IsDistinct (pointwise bytes_eq) (if b then ls else ls ++ l ∷ [])
    by true e = h
    by false e = distinct_push ls l h e

all_with_list : (P : List Name → Type 0) (ls : List (List Name)) (l : List Name) → AllByRecursion P ls → P l
    → AllByRecursion P (insert_key (pointwise bytes_eq) ls l)
all_with_list P ls l all p = by (list_any (pointwise bytes_eq l) ls)
  where
    by : (b : Bool) → AllByRecursion P (if b then ls else ls ++ l ∷ [])
    by true = all
    by false = all_push P ls l all p

pub distinct_after : (ls more : List (List Name)) → IsDistinct (pointwise bytes_eq) ls
    → IsDistinct (pointwise bytes_eq) (insert_all (pointwise bytes_eq) ls more)
distinct_after ls [] h = h
distinct_after ls (l ∷ more) h =
    distinct_after (insert_key (pointwise bytes_eq) ls l) more (distinct_with ls l h)

pub all_lists_after : (P : List Name → Type 0) (ls more : List (List Name)) → AllByRecursion P ls
    → AllByRecursion P more → AllByRecursion P (insert_all (pointwise bytes_eq) ls more)
all_lists_after P ls [] h all = h
all_lists_after P ls (l ∷ more) h all =
    all_lists_after P (insert_key (pointwise bytes_eq) ls l) more (all_with_list P ls l h all.0) all.1

pub all_taken : {A : Type 0} (P : A → Type 0) (n : ℕ) (xs : List A) → AllByRecursion P xs → AllByRecursion P (take n xs)
all_taken P zero xs all = tt
all_taken P (suc n) [] all = tt
all_taken P (suc n) (x ∷ xs) all = (all.0, all_taken P n xs all.1)

pub distinct_taken : (n : ℕ) (xs : List (List Name)) → IsDistinct (pointwise bytes_eq) xs
    → IsDistinct (pointwise bytes_eq) (take n xs)
unfolding IsDistinct
distinct_taken zero xs h = tt
distinct_taken (suc n) [] h = tt
distinct_taken (suc n) (x ∷ xs) h =
    (all_taken (λ y. pointwise bytes_eq x y ≡ false) n xs h.0, distinct_taken n xs h.1)

-- lists that have names are not empty
all_filtered : (lists : List (List Name)) → AllByRecursion (λ l. has_names l ≡ true) (filter has_names lists)
all_filtered [] = tt
all_filtered (l ∷ ls) = by (has_names l) refl (all_filtered ls)
  where
    by : (b : Bool) → has_names l ≡ b → AllByRecursion (λ l. has_names l ≡ true) (filter has_names ls)
        → AllByRecursion (λ l. has_names l ≡ true) (if b then l ∷ filter has_names ls else filter has_names ls)
    by true e rest = (e, rest)
    by false e rest = rest

pub not_empty : (lists : List (List Name)) → AllByRecursion (λ l. has_names l ≡ true) lists
    → AllByRecursion (λ l. pointwise bytes_eq [] l ≡ false) lists
not_empty [] all = tt
not_empty ([] ∷ ls) all = absurd (true≢false (sym all.0))
not_empty ((n ∷ ns) ∷ ls) all = (refl, not_empty ls all.1)

pub first_are_not_empty : (lists : List (List Name))
    → AllByRecursion (λ l. has_names l ≡ true) (insert_all (pointwise bytes_eq) [] (filter has_names lists))
first_are_not_empty lists =
    all_lists_after (λ l. has_names l ≡ true) [] (filter has_names lists) tt (all_filtered lists)
