-- Lists that grow by the entry at an index.
use Rattle.std.proofs.Common.{◌≡◌, ℕ, ◌+◌, ◌<◌, zero, suc, List, [], ◌∷◌, ◌++◌, length, map, take, Option, Some, None, IfSome, arith, add-one, refl, ◌∙◌, ap}
use Rattle.std.specs.List.{slice_get}
use Rattle.std.proofs.lemmas.List.{map-append}

module _ {X : Type 0} where
  -- an index within a list has an element
  pub some_at : (xs : List X) (i : ℕ) → i < length xs → slice_get xs i ≡ None → ⊥
  some_at [] i h n = omega arith
  some_at (x ∷ xs) zero h n = cc
  some_at (x ∷ xs) (suc i) h n = some_at xs i (omega arith) n

  pub take-at : (xs : List X) (i : ℕ) (x : X) → slice_get xs i ≡ Some x → take (i + 1) xs ≡ take i xs ++ x ∷ []
  take-at xs i x n = rw (add-one i) (by xs i n)
    where
      by : (xs : List X) (i : ℕ) → slice_get xs i ≡ Some x → take (suc i) xs ≡ take i xs ++ x ∷ []
      by [] i n = absurd (cc)
      by (y ∷ ys) zero n = let h : y ≡ x = cc in ap (λ t. t ∷ []) h
      by (y ∷ ys) (suc i) n = ap (λ t. y ∷ t) (by ys i n)

module _ {X Y : Type 0} (f : X → Y) where
  -- the list after the entry at an index
  pub pushed : (xs : List X) (i : ℕ) (ys new : List Y) → i < length xs → ys ≡ map f (take i xs) → IfSome (slice_get xs i) (λ x. new ≡ ys ++ f x ∷ [])
      → new ≡ map f (take (i + 1) xs)
  pushed xs i ys new h e s = by (slice_get xs i) refl s
    where
      by : (o : Option X) → slice_get xs i ≡ o → IfSome o (λ x. new ≡ ys ++ f x ∷ []) → new ≡ map f (take (i + 1) xs)
      by None n s = absurd (some_at xs i h n)
      by (Some x) n s = s ∙ rw (e, take-at xs i x n, map-append f (take i xs) (x ∷ [])) refl
