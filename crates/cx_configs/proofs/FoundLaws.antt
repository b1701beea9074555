-- Lists of names by their numbers, as more lists come.
use Rattle.std.proofs.Common.{◌≡◌, ℕ, zero, suc, length, arith, List, [], ◌∷◌, ◌++◌, Bool, true, false, Option, Some, None, is_some, map, refl, sym, ap, ◌∙◌, true≢false}
use Rattle.std.specs.Prelude.{◌==◌, ◌&&◌, ◌||◌, not, if◌then◌else◌, bytes_eq, slice_get}
use Rattle.std.proofs.lemmas.Bool.Decides.{nat_tests}
use Rattle.std.specs.List.{list_any}
use Rattle.std.specs.Ordering.{match_ordering}
use Rattle.std.specs.Cmp.Lexicographic.{pointwise}
use Rattle.std.proofs.Common.{Ordering}
use Rattle.std.specs.declared.cmp.Ordering.TheVariants.{Less, Equal, Greater}
use Rattle.std.specs.Ordering.{nat_cmp}
use Rattle.std.specs.Cmp.Lexicographic.{slice_cmp}
use Rattle.std.proofs.lemmas.Slice.Eq.{bytes_eq-Decides}
use Rattle.std.proofs.lemmas.List.{append-nil}
use Rattle.indexmap.specs.IndexSet.{insert_key}
use Rattle.cx_configs.specs.Configurations.{has_names}
use Rattle.cx_configs.specs.Questions.{Name}
use Rattle.cx_configs.specs.Shapes.Found.{AreFound, Found, IsFound, IsListed, names_at, names_in}
use Rattle.cx_configs.specs.Shapes.Groups.{AreListed, NumberedGroup, innermost_names, innermost_number, named}
use Rattle.cx_configs.specs.Shapes.Lists.{is_full, with_list}
use Rattle.cx_configs.specs.Shapes.Sets.{with_all, with_name}

abbrev pub Lists : Type 0
Lists = List (List Name)

pub both : (a b : Bool) → (a && b) ≡ true → (a ≡ true) × (b ≡ true)
both true b e = (refl, e)
both false b e = absurd (true≢false (sym e))

-- lists of names with equal bytes are the same
pub same_lists : (a b : List Name) → pointwise bytes_eq a b ≡ true → a ≡ b
same_lists [] [] e = refl
same_lists [] (y ∷ ys) e = absurd (true≢false (sym e))
same_lists (x ∷ xs) [] e = absurd (true≢false (sym e))
same_lists (x ∷ xs) (y ∷ ys) e =
    let parts = both (bytes_eq x y) (pointwise bytes_eq xs ys) e in
    ap (λ n. n ∷ xs) ((bytes_eq-Decides x y).0 parts.0) ∙ ap (λ ns. y ∷ ns) (same_lists xs ys parts.1)

same_itself : (l : List Name) → pointwise bytes_eq l l ≡ true
same_itself [] = refl
same_itself (x ∷ xs) = ap (λ b. b && pointwise bytes_eq xs xs) ((bytes_eq-Decides x x).1 refl) ∙ same_itself xs

-- more lists behind others
pub record Grows (old new : Lists) : Type 0 where
  pub more : Lists
  pub is : new ≡ old ++ more

get_append : (xs ys : Lists) (i : ℕ) → is_some (slice_get xs i) ≡ true → slice_get (xs ++ ys) i ≡ slice_get xs i
get_append [] ys i h = absurd (true≢false (sym h))
get_append (x ∷ xs) ys zero h = refl
get_append (x ∷ xs) ys (suc i) h = get_append xs ys i h

get_grown : {old new : Lists} → Grows old new → (i : ℕ) → is_some (slice_get old i) ≡ true
    → slice_get new i ≡ slice_get old i
get_grown {old} {new} g i h = ap (λ lists. slice_get lists i) g.is ∙ get_append old g.more i h

pub names_grown : {old new : Lists} → Grows old new → (n : Option ℕ) → IsListed old n
    → names_at new n ≡ names_at old n
names_grown g None h = refl
names_grown g (Some i) h = ap names_in (get_grown g i h)

pub listed_grown : {old new : Lists} → Grows old new → (n : Option ℕ) → IsListed old n → IsListed new n
listed_grown g None h = tt
listed_grown g (Some i) h = ap is_some (get_grown g i h) ∙ h

found_grown : {old new : Lists} → Grows old new → (f : Found) → IsFound old f → IsFound new f
found_grown g f h = record {
  around = listed_grown g f.around h.around;
  listed = listed_grown g (Some f.number) h.listed;
  names =
      names_grown g (Some f.number) h.listed ∙ h.names
      ∙ ap (λ names. with_all names f.added) (sym (names_grown g f.around h.around));
}

pub all_found_grown : {old new : Lists} → Grows old new → (fs : List Found) → AreFound old fs → AreFound new fs
all_found_grown g [] all = tt
all_found_grown g (f ∷ fs) all = (found_grown g f all.0, all_found_grown g fs all.1)

pub groups_listed_grown : {old new : Lists} → Grows old new → (gs : List NumberedGroup) → AreListed old gs → AreListed new gs
groups_listed_grown g [] all = tt
groups_listed_grown g (x ∷ xs) all = (listed_grown g x.number all.0, groups_listed_grown g xs all.1)

pub named_grown : {old new : Lists} → Grows old new → (gs : List NumberedGroup) → AreListed old gs
    → named new gs ≡ named old gs
named_grown g [] all = refl
named_grown {old} {new} g (x ∷ xs) all =
    ap (λ names. record { opening = x.opening; names = names } ∷ named new xs) (names_grown g x.number all.0)
    ∙ ap (λ gs. record { opening = x.opening; names = names_at old x.number } ∷ gs) (named_grown g xs all.1)

inserted : (b : Bool) (lists : Lists) (names : List Name) → Grows lists (if b then lists else lists ++ names ∷ [])
inserted true lists names = record { more = []; is = sym (append-nil lists) }
inserted false lists names = record { more = names ∷ []; is = refl }

pub grows_with_key : (lists : Lists) (names : List Name) → Grows lists (insert_key (pointwise bytes_eq) lists names)
grows_with_key lists names = inserted (list_any (pointwise bytes_eq names) lists) lists names

pub grows_with_list : (lists : Lists) (names : List Name) → Grows lists (with_list None lists names)
unfolding with_list
grows_with_list lists names = by (has_names names)
  where
    by : (b : Bool) → Grows lists (if b && true then insert_key (pointwise bytes_eq) lists names else lists)
    by true = grows_with_key lists names
    by false = record { more = []; is = sym (append-nil lists) }

-- a list that is there is put in no second time
any_at : (lists : Lists) (i : ℕ) → is_some (slice_get lists i) ≡ true
    → list_any (pointwise bytes_eq (names_in (slice_get lists i))) lists ≡ true
any_at [] i h = absurd (true≢false (sym h))
any_at (l ∷ ls) zero h = ap (λ b. b || list_any (pointwise bytes_eq l) ls) (same_itself l)
any_at (l ∷ ls) (suc i) h =
    by (pointwise bytes_eq (names_in (slice_get ls i)) l) (any_at ls i h)
  where
    by : (b : Bool) {c : Bool} → c ≡ true → (b || c) ≡ true
    by true e = refl
    by false e = e

pub listed_stays : (lists : Lists) (n : Option ℕ) → IsListed lists n → with_list None lists (names_at lists n) ≡ lists
unfolding with_list
listed_stays lists None h = refl
listed_stays lists (Some i) h =
    by (has_names (names_in (slice_get lists i))) (list_any (pointwise bytes_eq (names_in (slice_get lists i))) lists) (any_at lists i h)
  where
    by : (a b : Bool) → b ≡ true
        → (if a && true then (if b then lists else lists ++ names_in (slice_get lists i) ∷ []) else lists) ≡ lists
    by true true e = refl
    by false b e = refl
    by true false e = absurd (true≢false (sym e))

-- a set with a name more has names
more_has_names : (set : List Name) (n : Name) → has_names (with_name set n) ≡ true
more_has_names [] n = refl
more_has_names (x ∷ xs) n = by (slice_cmp nat_cmp n x)
  where
    by : (o : Ordering) → has_names (match_ordering o (n ∷ x ∷ xs) (x ∷ xs) (x ∷ with_name xs n)) ≡ true
    by Less = refl
    by Equal = refl
    by Greater = refl

all_has_names : (set names : List Name) → has_names set ≡ true → has_names (with_all set names) ≡ true
all_has_names set [] h = h
all_has_names set (n ∷ ns) h = all_has_names (with_name set n) ns (more_has_names set n)

pub added_has_names : (set names : List Name) → has_names names ≡ true → has_names (with_all set names) ≡ true
added_has_names set [] h = absurd (true≢false (sym h))
added_has_names set (n ∷ ns) h = all_has_names (with_name set n) ns (more_has_names set n)

pub with_given : (lists : Lists) (names : List Name) → has_names names ≡ true
    → with_list None lists names ≡ insert_key (pointwise bytes_eq) lists names
unfolding with_list
with_given lists names e = ap (λ b. if b && true then insert_key (pointwise bytes_eq) lists names else lists) e

-- lists that are not full take one more whatever their bound
pub with_room : (most : Option ℕ) (lists : Lists) (names : List Name) → is_full most lists ≡ false
    → with_list None lists names ≡ with_list most lists names
unfolding with_list
with_room most lists names e =
    ap (λ b. if has_names names && not b then insert_key (pointwise bytes_eq) lists names else lists) (sym e)

pub innermost_named : (lists : Lists) (gs : List NumberedGroup) → innermost_names (named lists gs) ≡ names_at lists (innermost_number gs)
innermost_named lists [] = refl
innermost_named lists (g ∷ gs) = refl

pub innermost_listed : (lists : Lists) (gs : List NumberedGroup) → AreListed lists gs → IsListed lists (innermost_number gs)
innermost_listed lists [] h = tt
innermost_listed lists (g ∷ gs) h = h.0

-- names that add nothing to a list that is there add no list
pub nothing_added : {A : Type 0} (seen : A → Name) (lists : Lists) (n : Option ℕ) (added : List A) (names : List Name)
    → IsListed lists n → (length added == 0) ≡ true
    → with_all (names_at lists n) (map seen added) ≡ with_all (names_at lists n) names
    → lists ≡ with_list None lists (with_all (names_at lists n) names)
nothing_added seen lists n [] names h none same =
    sym (listed_stays lists n h) ∙ ap (with_list None lists) same
nothing_added seen lists n (a ∷ rest) names h none same = absurd (grind (arith, nat_tests, none))

-- a list that was found before adds no list
pub found_stays : (lists : Lists) (f : Found) (names : List Name) → IsFound lists f
    → with_all (names_at lists f.around) f.added ≡ with_all (names_at lists f.around) names
    → lists ≡ with_list None lists (with_all (names_at lists f.around) names)
found_stays lists f names h same =
    sym (listed_stays lists (Some f.number) h.listed) ∙ ap (with_list None lists) (h.names ∙ same)

pub seen_has_names : {A : Type 0} (seen : A → Name) (added : List A) → (length added == 0) ≡ false
    → has_names (map seen added) ≡ true
seen_has_names seen [] e = absurd (true≢false e)
seen_has_names seen (a ∷ rest) e = refl
