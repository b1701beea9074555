-- What stands at a place.
use Rattle.std.proofs.Common.{◌≡◌, ℕ, List, [], ◌∷◌, ◌++◌, Option, Some, None, true, false, refl, sym, ap, ◌∙◌, subst, cond, ◌==◌, append_assoc, IfSome, IsTrue, ⊎_elim}
use Rattle.std.proofs.lemmas.Bool.{both_ways, cases_Bool, cond-false, cond-true, eq-eqb, false_from_ne_true, or_left, or_parts, or_right}
use Rattle.cx_tokens.specs.Nodes.{TokenNode, nodes_before, nodes_after, first_of, nodes_from, is_live, last_of, nodes_to}
use Rattle.cx_tokens.proofs.NodeLaws.{IsNumbered, found, numbered_apart}

pub first_live : (xs : List TokenNode) → IfSome (first_of xs) (λ n. IsTrue (is_live n xs))
first_live [] = tt
first_live (x ∷ xs) = or_left _ _ (eq-eqb x.number x.number refl)

pub last_live : (xs : List TokenNode) → IfSome (last_of xs) (λ n. IsTrue (is_live n xs))
last_live [] = tt
last_live (x ∷ []) = or_left _ _ (eq-eqb x.number x.number refl)
last_live (x ∷ y ∷ xs) = live_on x (y ∷ xs) (last_of (y ∷ xs)) (last_live (y ∷ xs))
  where
    live_on : (x : TokenNode) (xs : List TokenNode) (o : Option ℕ) → IfSome o (λ n. IsTrue (is_live n xs)) → IfSome o (λ n. IsTrue (is_live n (x ∷ xs)))
    live_on x xs None h = tt
    live_on x xs (Some n) h = or_right _ _ h

pub whole_up : (n : ℕ) (xs : List TokenNode) → is_live n xs ≡ true → xs ≡ nodes_to n xs ++ nodes_after n xs
whole_up n xs l =
    let f = found n xs l in f.whole ∙ sym (append_assoc (nodes_before n xs) (f.node ∷ []) (nodes_after n xs)) ∙ ap (λ t. t ++ nodes_after n xs) (sym f.up_there)

-- ---- what stands behind another

from_dead : (m : ℕ) (xs : List TokenNode) → is_live m xs ≡ false → nodes_from m xs ≡ []
unfolding nodes_from
from_dead m [] h = refl
from_dead m (x ∷ xs) h = let p = or_parts _ _ h in cond-false (x.number == m) (x ∷ xs) (nodes_from m xs) p.0 ∙ from_dead m xs p.1

behind_append : (n : ℕ) (a b : List TokenNode) → is_live n a ≡ false → nodes_after n (a ++ b) ≡ nodes_after n b
unfolding nodes_after
behind_append n [] b h = refl
behind_append n (x ∷ a) b h = let p = or_parts _ _ h in cond-false (x.number == n) (a ++ b) (nodes_after n (a ++ b)) p.0 ∙ behind_append n a b p.1

live_behind : (n m : ℕ) (xs : List TokenNode) → is_live n (nodes_after m xs) ≡ true → is_live n xs ≡ true
unfolding nodes_after
live_behind n m [] h = h
live_behind n m (x ∷ xs) h =
    elim (x.number == m) as (λ b. is_live n (cond b xs (nodes_after m xs)) ≡ true → is_live n (x ∷ xs) ≡ true)
    [ true ↦ λ k. or_right _ _ k | false ↦ λ k. or_right _ _ (live_behind n m xs k) ] h

pub from_itself : (n : ℕ) (xs : List TokenNode) → is_live n xs ≡ true → is_live n (nodes_from n xs) ≡ true
from_itself n xs h = let f = found n xs h in subst (λ t. is_live n t ≡ true) (sym f.from_there) (or_left _ _ (eq-eqb f.node.number n f.number))

live_in_behind : (n m k : ℕ) (xs : List TokenNode) → IsNumbered xs → is_live m (nodes_from k xs) ≡ true → is_live n (nodes_after m xs) ≡ true → is_live n (nodes_from k xs) ≡ true
live_in_behind n m k xs d h l =
    ⊎_elim
    (λ (a : is_live k xs ≡ true).
    let f = found k xs a in
    let ys = f.node ∷ nodes_after k xs in
    let there : is_live m ys ≡ true = subst (λ t. is_live m t ≡ true) f.from_there h in
    let dead : is_live m (nodes_before k xs) ≡ false = false_from_ne_true (is_live m (nodes_before k xs))
    (λ e. both_ways (is_live m ys) (numbered_apart (nodes_before k xs) ys (subst IsNumbered f.whole d) m e) there) in
    let e : nodes_after m xs ≡ nodes_after m ys = ap (nodes_after m) f.whole ∙ behind_append m (nodes_before k xs) ys dead in
    subst (λ t. is_live n t ≡ true) (sym f.from_there) (live_behind n m ys (subst (λ t. is_live n t ≡ true) e l)))
    (λ (a : is_live k xs ≡ false). absurd (both_ways (is_live m (nodes_from k xs)) (ap (is_live m) (from_dead k xs a)) h))
    (cases_Bool (is_live k xs))

pub order_next : (m k : ℕ) (xs : List TokenNode) (o : Option ℕ) → IsNumbered xs → is_live m (nodes_from k xs) ≡ true → o ≡ first_of (nodes_after m xs) → IfSome o (λ n. IsTrue (is_live n (nodes_from k xs)))
order_next m k xs o d h e = subst (λ t. IfSome t (λ n. IsTrue (is_live n (nodes_from k xs)))) (sym e) (within_from (first_of (nodes_after m xs)) (first_live (nodes_after m xs)))
  where
    within_from : (o : Option ℕ) → IfSome o (λ n. IsTrue (is_live n (nodes_after m xs))) → IfSome o (λ n. IsTrue (is_live n (nodes_from k xs)))
    within_from None l = tt
    within_from (Some n) l = live_in_behind n m k xs d h l

from_append : (n : ℕ) (a b : List TokenNode) → is_live n a ≡ false → nodes_from n (a ++ b) ≡ nodes_from n b
unfolding nodes_from
from_append n [] b h = refl
from_append n (x ∷ a) b h = let p = or_parts _ _ h in cond-false (x.number == n) (x ∷ (a ++ b)) (nodes_from n (a ++ b)) p.0 ∙ from_append n a b p.1

live_from : (n m : ℕ) (xs : List TokenNode) → is_live n (nodes_from m xs) ≡ true → is_live n xs ≡ true
unfolding nodes_from
live_from n m [] h = h
live_from n m (x ∷ xs) h =
    elim (x.number == m) as (λ b. is_live n (cond b (x ∷ xs) (nodes_from m xs)) ≡ true → is_live n (x ∷ xs) ≡ true)
    [ true ↦ λ k. k | false ↦ λ k. or_right _ _ (live_from n m xs k) ] h

pub from_transitive : (k m n : ℕ) (xs : List TokenNode) → IsNumbered xs → is_live m (nodes_from k xs) ≡ true → is_live n (nodes_from m xs) ≡ true → is_live n (nodes_from k xs) ≡ true
from_transitive k m n xs d h l =
    ⊎_elim
    (λ (a : is_live k xs ≡ true).
    let f = found k xs a in
    let ys = f.node ∷ nodes_after k xs in
    let there : is_live m ys ≡ true = subst (λ t. is_live m t ≡ true) f.from_there h in
    let dead : is_live m (nodes_before k xs) ≡ false = false_from_ne_true (is_live m (nodes_before k xs))
    (λ e. both_ways (is_live m ys) (numbered_apart (nodes_before k xs) ys (subst IsNumbered f.whole d) m e) there) in
    let e : nodes_from m xs ≡ nodes_from m ys = ap (nodes_from m) f.whole ∙ from_append m (nodes_before k xs) ys dead in
    subst (λ t. is_live n t ≡ true) (sym f.from_there) (live_from n m ys (subst (λ t. is_live n t ≡ true) e l)))
    (λ (a : is_live k xs ≡ false). absurd (both_ways (is_live m (nodes_from k xs)) (ap (is_live m) (from_dead k xs a)) h))
    (cases_Bool (is_live k xs))

-- ---- what stands before another

from_more : (m n : ℕ) (x : TokenNode) (xs : List TokenNode) → is_live n (nodes_from m xs) ≡ true → is_live n (nodes_from m (x ∷ xs)) ≡ true
unfolding nodes_from
from_more m n x xs h =
    elim (x.number == m) as (λ b. is_live n (cond b (x ∷ xs) (nodes_from m xs)) ≡ true)
    [ true ↦ or_right _ _ (live_from m n xs h) | false ↦ h ]
  where
    live_from : (m n : ℕ) (xs : List TokenNode) → is_live n (nodes_from m xs) ≡ true → is_live n xs ≡ true
    live_from m n [] h = h
    live_from m n (x ∷ xs) h =
        elim (x.number == m) as (λ b. is_live n (cond b (x ∷ xs) (nodes_from m xs)) ≡ true → is_live n (x ∷ xs) ≡ true)
        [ true ↦ λ k. k | false ↦ λ k. or_right _ _ (live_from m n xs k) ] h

last_stands : (n : ℕ) (a b : List TokenNode) → is_live n b ≡ true → IfSome (last_of a) (λ m. is_live n (nodes_from m (a ++ b)) ≡ true)
unfolding nodes_from
last_stands n [] b h = tt
last_stands n (x ∷ []) b h =
    subst (λ t. is_live n t ≡ true) (sym (cond-true (x.number == x.number) (x ∷ b) (nodes_from x.number b) (eq-eqb x.number x.number refl))) (or_right _ _ h)
last_stands n (x ∷ y ∷ a) b h = more (last_of (y ∷ a)) (last_stands n (y ∷ a) b h)
  where
    more : (o : Option ℕ) → IfSome o (λ m. is_live n (nodes_from m (y ∷ a ++ b)) ≡ true) → IfSome o (λ m. is_live n (nodes_from m (x ∷ y ∷ a ++ b)) ≡ true)
    more None k = tt
    more (Some m) k = from_more m n x (y ∷ a ++ b) k

pub order_previous : (n : ℕ) (xs : List TokenNode) (o : Option ℕ) → is_live n xs ≡ true → o ≡ last_of (nodes_before n xs) → IfSome o (λ m. is_live n (nodes_from m xs) ≡ true)
order_previous n xs o l e =
    let f = found n xs l in
    subst (λ t. IfSome t (λ m. is_live n (nodes_from m xs) ≡ true)) (sym e)
    (subst (λ t. IfSome (last_of (nodes_before n xs)) (λ m. is_live n (nodes_from m t) ≡ true)) (sym f.whole)
    (last_stands n (nodes_before n xs) (f.node ∷ nodes_after n xs) (or_left _ _ (eq-eqb f.node.number n f.number))))
