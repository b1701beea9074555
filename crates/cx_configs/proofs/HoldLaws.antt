-- Sets of names by the names that they hold.
use Rattle.std.proofs.Common.{◌≡◌, ◌++◌, map, Bor, List, [], ◌∷◌, Bool, true, false, not, Ordering, refl, sym, ap, ◌∙◌}
use Rattle.std.specs.Prelude.{◌&&◌, ◌||◌, filter, if◌then◌else◌}
use Rattle.std.specs.List.{AllByRecursion, list_any}
use Rattle.std.proofs.lemmas.List.{append-nil, map-append}
use Rattle.std.proofs.lemmas.List.Elements.{filter-append}
use Rattle.std.specs.List.Sorted.{IsStrictlySortedBy}
use Rattle.std.specs.Ordering.{is_eq, match_ordering, nat_cmp}
use Rattle.std.specs.declared.cmp.Ordering.TheVariants.{Less, Equal, Greater}
use Rattle.std.specs.Cmp.Lexicographic.{slice_cmp}
use Rattle.std.proofs.lemmas.Cmp.{nat_list_cmp_total}
use Rattle.std.proofs.lemmas.Slice.Eq.{bytes_eq-Decides}
use Rattle.std.proofs.lemmas.Map.Lookups.{btree_set_from_contains}
use Rattle.std.proofs.lemmas.Map.Text.{is_eq-slice_cmp}
use Rattle.std.proofs.lemmas.Map.Views.{any-filter_same}
use Rattle.cx_table.specs.NameTable.{Entries}
use Rattle.cx_configs.specs.Questions.{Name}
use Rattle.cx_configs.specs.Shapes.Sets.{holds, is_settled, lacking, with_all, with_name, with_names}
use Rattle.cx_configs.proofs.OrderLaws.{ascends_after}

abbrev is_same : Name → Name → Bool
is_same a b = is_eq (slice_cmp nat_cmp a b)

same_name : (a b : Name) → is_same a b ≡ true → a ≡ b
same_name a b e = (bytes_eq-Decides a b).0 (sym (is_eq-slice_cmp a b) ∙ e)

equal_name : (a b : Name) → slice_cmp nat_cmp a b ≡ Equal → a ≡ b
equal_name a b e = same_name a b (ap is_eq e)

or_false : (a : Bool) → a ≡ (a || false)
or_false true = refl
or_false false = refl

or_twice : (a b : Bool) → (a || b) ≡ (a || (a || b))
or_twice true b = refl
or_twice false b = refl

or_turned : (a b c : Bool) → (a || (b || c)) ≡ (b || (a || c))
or_turned true true c = refl
or_turned true false c = refl
or_turned false true c = refl
or_turned false false c = refl

or_moved : (a b c : Bool) → ((a || b) || c) ≡ (b || (a || c))
or_moved true true c = refl
or_moved true false c = refl
or_moved false true c = refl
or_moved false false c = refl

or_rest : (a b : Bool) → (a || (not a && b)) ≡ (a || b)
or_rest true b = refl
or_rest false b = refl

holds_with : (set : List Name) (n q : Name) → holds (with_name set n) q ≡ (is_same q n || holds set q)
holds_with [] n q = refl
holds_with (x ∷ xs) n q = by (slice_cmp nat_cmp n x) refl (holds_with xs n q)
  where
    by : (o : Ordering) → slice_cmp nat_cmp n x ≡ o → holds (with_name xs n) q ≡ (is_same q n || holds xs q)
        → holds (match_ordering o (n ∷ x ∷ xs) (x ∷ xs) (x ∷ with_name xs n)) q
        ≡ (is_same q n || (is_same q x || holds xs q))
    by Less e rest = refl
    by Equal e rest =
        or_twice (is_same q x) (holds xs q)
        ∙ ap (λ m. is_same q m || (is_same q x || holds xs q)) (sym (equal_name n x e))
    by Greater e rest =
        ap (λ b. is_same q x || b) rest ∙ or_turned (is_same q x) (is_same q n) (holds xs q)

holds_all : (set names : List Name) (q : Name) → holds (with_all set names) q ≡ (holds set q || holds names q)
holds_all set [] q = or_false (holds set q)
holds_all set (n ∷ ns) q =
    holds_all (with_name set n) ns q ∙ ap (λ b. b || holds ns q) (holds_with set n q)
    ∙ or_moved (is_same q n) (holds set q) (holds ns q)

holds_lacking : (set names : List Name) (q : Name)
    → holds (lacking set names) q ≡ (not (holds set q) && holds names q)
holds_lacking set names q =
    any-filter_same (is_same q) (λ n. not (holds set n)) (not (holds set q))
    (λ n e. ap (λ m. not (holds set m)) (sym (same_name q n e))) names

-- sets that hold the same names are the same
same_sets : (a b : List Name) → IsStrictlySortedBy (slice_cmp nat_cmp) a → IsStrictlySortedBy (slice_cmp nat_cmp) b
    → ((q : Name) → holds a q ≡ holds b q) → a ≡ b
same_sets a b sa sb h =
    btree_set_from_contains nat_list_cmp_total (record { keys = a }) (record { keys = b }) sa sb h equal_name

-- names that a set has add nothing to it
pub with_lacking : (set names : List Name) → IsStrictlySortedBy (slice_cmp nat_cmp) set
    → with_all set (lacking set names) ≡ with_all set names
with_lacking set names h =
    same_sets (with_all set (lacking set names)) (with_all set names) (ascends_after set (lacking set names) h) (ascends_after set names h)
    (λ q. holds_all set (lacking set names) q ∙ ap (λ b. holds set q || b) (holds_lacking set names q)
    ∙ or_rest (holds set q) (holds names q) ∙ sym (holds_all set names q))

-- names that are put in order first make the same set
with_ordered : (set names : List Name) → IsStrictlySortedBy (slice_cmp nat_cmp) set
    → with_all set (with_all [] names) ≡ with_all set names
unfolding IsStrictlySortedBy
with_ordered set names h =
    same_sets (with_all set (with_all [] names)) (with_all set names) (ascends_after set (with_all [] names) h) (ascends_after set names h)
    (λ q. holds_all set (with_all [] names) q ∙ ap (λ b. holds set q || b) (holds_all [] names q)
    ∙ sym (holds_all set names q))

-- a group's own names, within those of the groups around it
pub with_own_names : (settled : Entries (Unit {0})) (around own : List Name)
    → with_all (with_names settled [] around) (with_names settled [] own)
    ≡ with_names settled (with_names settled [] around) own
unfolding with_names IsStrictlySortedBy
with_own_names settled around own =
    with_ordered (with_all [] (filter (λ n. not (is_settled settled n)) around)) (filter (λ n. not (is_settled settled n)) own)
    (ascends_after [] (filter (λ n. not (is_settled settled n)) around) tt)

-- what is seen of a tree's names
pub holds_seen : {A : Type 0} (seen : A → Name) (keys : List A) (q : Name)
    → list_any (λ k. is_eq (slice_cmp nat_cmp q (seen k))) keys ≡ holds (map seen keys) q
holds_seen seen [] q = refl
holds_seen seen (k ∷ ks) q = ap (λ b. is_same q (seen k) || b) (holds_seen seen ks q)

lacking_one : (set : List Name) (n : Name) (b : Bool) → holds set n ≡ b
    → lacking set (n ∷ []) ≡ (if not b then n ∷ [] else [])
lacking_one set n b e = ap (λ held. if not held then n ∷ [] else []) e

-- one name further
pub lacking_held : {A : Type 0} (seen : A → Name) (set : List Name) (before : List A) (n : A) → holds set (seen n) ≡ true
    → lacking set (map seen (before ++ n ∷ [])) ≡ lacking set (map seen before)
lacking_held seen set before n e =
    ap (lacking set) (map-append seen before (n ∷ []))
    ∙ filter-append (λ m. not (holds set m)) (map seen before) (seen n ∷ [])
    ∙ ap (λ more. lacking set (map seen before) ++ more) (lacking_one set (seen n) true e) ∙ append-nil (lacking set (map seen before))

pub lacking_more : {A : Type 0} (seen : A → Name) (set : List Name) (before : List A) (n : A) → holds set (seen n) ≡ false
    → lacking set (map seen (before ++ n ∷ [])) ≡ lacking set (map seen before) ++ seen n ∷ []
lacking_more seen set before n e =
    ap (lacking set) (map-append seen before (n ∷ []))
    ∙ filter-append (λ m. not (holds set m)) (map seen before) (seen n ∷ [])
    ∙ ap (λ more. lacking set (map seen before) ++ more) (lacking_one set (seen n) false e)

pub seen_twice : {A : Type 0} (names : List (Bor (Bor A))) → map (λ n. n.now.now) names ≡ map (λ n. n.now) (map (λ n. n.now) names)
seen_twice [] = refl
seen_twice (n ∷ ns) = ap (λ rest. n.now.now ∷ rest) (seen_twice ns)

all_below : {A : Type 0} (seen : A → Name) (k : Name) (keys : List A)
    → AllByRecursion (λ y. slice_cmp nat_cmp k (seen y) ≡ Less) keys
    → AllByRecursion (λ y. slice_cmp nat_cmp k y ≡ Less) (map seen keys)
all_below seen k [] h = tt
all_below seen k (y ∷ ys) h = (h.0, all_below seen k ys h.1)

-- what is seen of a tree's names ascends
pub seen_ascend : {A : Type 0} (seen : A → Name) (keys : List A)
    → IsStrictlySortedBy (λ a b. slice_cmp nat_cmp (seen a) (seen b)) keys
    → IsStrictlySortedBy (slice_cmp nat_cmp) (map seen keys)
unfolding IsStrictlySortedBy
seen_ascend seen [] h = tt
seen_ascend seen (k ∷ ks) h = (all_below seen (seen k) ks h.0, seen_ascend seen ks h.1)
