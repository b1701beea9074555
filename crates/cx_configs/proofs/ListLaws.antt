-- Lists of names that are found one after another are those that the definition gives.
use Rattle.std.proofs.Common.{◌≡◌, ℕ, ◌+◌, ◌≤◌, List, [], ◌∷◌, ◌++◌, Bool, true, false, Option, Some, None, refl, sym, ap, ◌∙◌, subst, map, length, arith, true≢false}
use Rattle.std.proofs.lemmas.List.{append-nil, append_assoc, length-append, map-append, take-append-le, take_all}
use Rattle.std.proofs.lemmas.Bool.Decides.{nat_tests}
use Rattle.std.specs.Prelude.{◌&&◌, not, if◌then◌else◌, bytes_eq, filter, fold, nat_le, take}
use Rattle.std.specs.List.{flat_map, list_any}
use Rattle.std.proofs.lemmas.List.Concat.{flat_map-cons}
use Rattle.std.specs.Cmp.Lexicographic.{pointwise}
use Rattle.indexmap.specs.IndexSet.{insert_all, insert_key}
use Rattle.cx_configs.specs.Configurations.{has_names, up_to}
use Rattle.cx_configs.specs.Questions.{Name}
use Rattle.cx_configs.specs.Shapes.Lists.{is_full, with_list, with_lists}

abbrev Lists : Type 0
Lists = List (List Name)

abbrev insert : Lists → List Name → Lists
insert = insert_key (pointwise bytes_eq)

full_lists_fold : (most : Option ℕ) (lists more : Lists) → is_full most lists ≡ true
    → fold (with_list most) lists more ≡ lists
unfolding with_list
full_lists_fold most lists [] full = refl
full_lists_fold most lists (names ∷ more) full =
    subst (λ ls. fold (with_list most) ls more ≡ lists)
    (sym (stays (has_names names) (is_full most lists) full)) (full_lists_fold most lists more full)
  where
    stays : (a b : Bool) → b ≡ true → (if a && not b then insert lists names else lists) ≡ lists
    stays true true e = refl
    stays false b e = refl
    stays true false e = absurd (true≢false (sym e))

-- full lists stay as they are
pub full_lists_stay : (most : Option ℕ) (lists more : Lists) → is_full most lists ≡ true
    → with_lists most lists more ≡ lists
unfolding with_lists
full_lists_stay most lists more full = full_lists_fold most lists more full

-- what is put into a set of lists goes behind them
behind : (lists more : Lists)
    → (added : Lists) × (insert_all (pointwise bytes_eq) lists more ≡ lists ++ added)
behind lists [] = ([], sym (append-nil lists))
behind lists (names ∷ more) =
    by (list_any (pointwise bytes_eq names) lists) (behind lists more) (behind (lists ++ names ∷ []) more)
  where
    by : (b : Bool) → (added : Lists) × (fold insert lists more ≡ lists ++ added)
        → (added : Lists) × (fold insert (lists ++ names ∷ []) more ≡ (lists ++ names ∷ []) ++ added)
        → (added : Lists) × (fold insert (if b then lists else lists ++ names ∷ []) more ≡ lists ++ added)
    by true there new = there
    by false there new = (names ∷ new.0, new.1 ∙ append_assoc lists (names ∷ []) new.0)

abbrev fits : (most : Option ℕ) (lists : Lists) → Type 0
fits None lists = Unit {0}
fits (Some n) lists = length lists ≤ n

by_insert : (b : Bool) (lists : Lists) (names : List Name)
    → length (if b then lists else lists ++ names ∷ []) ≤ length lists + 1
by_insert true lists names = omega arith
by_insert false lists names = omega (arith, length-append lists (names ∷ []))

not_full : (n m : ℕ) → nat_le n m ≡ false → m + 1 ≤ n
not_full n m e = grind (arith, nat_tests, e)

is_full_at : (n m : ℕ) → nat_le n m ≡ true → n ≤ m
is_full_at n m e = grind (arith, nat_tests, e)

fits_more : (most : Option ℕ) (lists : Lists) (names : List Name) → is_full most lists ≡ false
    → fits most lists → fits most (insert lists names)
fits_more None lists names e h = tt
fits_more (Some n) lists names e h =
    let least = not_full n (length lists) e in
    let long = by_insert (list_any (pointwise bytes_eq names) lists) lists names in
    omega (arith, least, long)

cut : (most : Option ℕ) (lists more : Lists) → is_full most lists ≡ true → fits most lists
    → up_to most (insert_all (pointwise bytes_eq) lists more) ≡ lists
cut None lists more e h = absurd (true≢false (sym e))
cut (Some n) lists more e h =
    let all = behind lists more in
    let least = is_full_at n (length lists) e in
    ap (take n) all.1 ∙ take-append-le n lists all.0 least ∙ take_all n lists h

found : (most : Option ℕ) (lists more : Lists) → fits most lists
    → fold (with_list most) lists more
    ≡ up_to most (insert_all (pointwise bytes_eq) lists (filter has_names more))
unfolding with_list
found None lists [] h = refl
found (Some n) lists [] h = sym (take_all n lists h)
found most lists (names ∷ more) h =
    by (has_names names) (is_full most lists) refl (found most lists more h)
    (λ fit. found most (insert lists names) more fit)
  where
    by : (a b : Bool) → is_full most lists ≡ b
        → fold (with_list most) lists more
        ≡ up_to most (insert_all (pointwise bytes_eq) lists (filter has_names more))
        → (fits most (insert lists names) → fold (with_list most) (insert lists names) more
        ≡ up_to most (insert_all (pointwise bytes_eq) (insert lists names) (filter has_names more)))
        → fold (with_list most) (if a && not b then insert lists names else lists) more
        ≡ up_to most (insert_all (pointwise bytes_eq) lists
        (if a then names ∷ filter has_names more else filter has_names more))
    by false b e same new = same
    by true false e same new = new (fits_more most lists names e h)
    by true true e same new =
        full_lists_fold most lists more e ∙ sym (cut most lists (names ∷ filter has_names more) e h)

-- what is found one after another is what the definition gives
pub lists_are_found : (most : Option ℕ) (more : Lists)
    → with_lists most [] more ≡ up_to most (insert_all (pointwise bytes_eq) [] (filter has_names more))
unfolding with_lists
lists_are_found most more = found most [] more (nothing_fits most)
  where
    nothing_fits : (most : Option ℕ) → fits most []
    nothing_fits None = tt
    nothing_fits (Some n) = omega arith

pub map_flat_map : {A B C : Type 0} (f : B → C) (g : A → List B) (xs : List A)
    → flat_map (λ x. map f (g x)) xs ≡ map f (flat_map g xs)
map_flat_map f g [] = refl
map_flat_map f g (x ∷ xs) =
    flat_map-cons (λ x. map f (g x)) x xs ∙ ap (λ ys. map f (g x) ++ ys) (map_flat_map f g xs)
    ∙ sym (map-append f (g x) (flat_map g xs)) ∙ ap (map f) (sym (flat_map-cons g x xs))
