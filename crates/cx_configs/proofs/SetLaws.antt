-- Sets by what contracts see of their members.
use Rattle.std.proofs.Common.{◌≡◌, List, [], ◌∷◌, ◌++◌, Bool, true, false, refl, sym, ap, ◌∙◌, map, Bor}
use Rattle.std.specs.Prelude.{ℕ, ◌||◌, if◌then◌else◌, nat_eq, bytes_eq}
use Rattle.std.specs.List.{list_any}
use Rattle.std.proofs.Common.{Ordering}
use Rattle.std.specs.Ordering.{match_ordering}
use Rattle.std.specs.declared.cmp.Ordering.TheVariants.{Less, Equal, Greater}
use Rattle.std.specs.Cmp.Lexicographic.{pointwise}
use Rattle.std.specs.Cmp.Derive.Mapped.{pointwise-map}
use Rattle.std.specs.BTreeSet.{insert_key as insert_in_order}
use Rattle.indexmap.specs.IndexSet.{insert_key}

module _ {A B : Type 0} (f : A → B) where
  module _ (cmp : B → B → Ordering) (k : A) where
    by_order : (o : Ordering) (x : A) (xs inserted : List A) (seen : List B) → map f inserted ≡ seen
        → map f (match_ordering o (k ∷ x ∷ xs) (x ∷ xs) (x ∷ inserted))
        ≡ match_ordering o (f k ∷ f x ∷ map f xs) (f x ∷ map f xs) (f x ∷ seen)
    by_order Less x xs inserted seen e = refl
    by_order Equal x xs inserted seen e = refl
    by_order Greater x xs inserted seen e = ap (λ ys. f x ∷ ys) e

    -- what is seen of a set with a member more
    pub inserted_in_order : (ks : List A)
        → map f (insert_in_order (λ x y. cmp (f x) (f y)) ks k) ≡ insert_in_order cmp (map f ks) (f k)
    inserted_in_order [] = refl
    inserted_in_order (x ∷ xs) = by_order (cmp (f k) (f x)) x xs _ _ (inserted_in_order xs)

  module _ (same : A → A → Bool) (eq : B → B → Bool) (agree : (x y : A) → same x y ≡ eq (f x) (f y)) where
    any_seen : (k : A) (ks : List A) → list_any (same k) ks ≡ list_any (eq (f k)) (map f ks)
    any_seen k [] = refl
    any_seen k (x ∷ xs) = ap2 (agree k x) (any_seen k xs)
      where
        ap2 : {a b c d : Bool} → a ≡ b → c ≡ d → (a || c) ≡ (b || d)
        ap2 {a} {b} {c} {d} e g = ap (λ t. t || c) e ∙ ap (λ t. b || t) g

    map_push : (k : A) (ks : List A) → map f (ks ++ k ∷ []) ≡ map f ks ++ f k ∷ []
    map_push k [] = refl
    map_push k (x ∷ xs) = ap (λ ys. f x ∷ ys) (map_push k xs)

    by_test : (b : Bool) (k : A) (ks : List A)
        → map f (if b then ks else ks ++ k ∷ []) ≡ (if b then map f ks else map f ks ++ f k ∷ [])
    by_test true k ks = refl
    by_test false k ks = map_push k ks

    pub inserted_last : (ks : List A) (k : A)
        → map f (insert_key same ks k) ≡ insert_key eq (map f ks) (f k)
    inserted_last ks k =
        by_test (list_any (same k) ks) k ks
        ∙ ap (λ b. if b then map f ks else map f ks ++ f k ∷ []) (any_seen k ks)

-- lists of names are equal by their bytes
pub same_names : (a b : List (Bor (List ℕ)))
    → pointwise (λ x y. pointwise nat_eq x.now y.now) a b
    ≡ pointwise bytes_eq (map (λ n. n.now) a) (map (λ n. n.now) b)
same_names a b = sym (pointwise-map (λ n. n.now) bytes_eq a b)
