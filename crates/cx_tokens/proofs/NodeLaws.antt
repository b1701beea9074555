-- Numbers, places and partners in lists of nodes.
use Rattle.std.proofs.Common.{◌≡◌, ℕ, arith, List, [], ◌∷◌, ◌++◌, Some, None, true, false, ◌||◌, refl, sym, ap, ◌∙◌, subst, ◌⊎◌, ⊎_elim, cond, map, ◌==◌}
use Rattle.std.specs.List.{AllByRecursion, IsDistinct}
use Rattle.std.proofs.lemmas.Bool.{cases_Bool, or_cases, or_from, or_left, or_parts, or_right, eqb-true, eq-eqb}
use Rattle.std.proofs.lemmas.Bool.Decides.{nat_tests}
use Rattle.std.proofs.lemmas.List.Folds.{list_any-append}
use Rattle.cx_tokens.specs.Nodes.{TokenNode, nodes_before, nodes_after, nodes_from, is_live, node_of, partner_in, partner_of, nodes_to}

-- the numbers are distinct
abbrev pub IsNumbered : List TokenNode → Type 0
IsNumbered nodes = IsDistinct (λ a b. a == b) (map (λ x. x.number) nodes)

eqb_flip : (a b : ℕ) → (a == b) ≡ (b == a)
eqb_flip a b = grind (arith, nat_tests)

pub own_number : (x : TokenNode) (n : ℕ) → (x.number == n) ≡ true → x.number ≡ n
own_number x n e = eqb-true x.number n e

pub live_append : (n : ℕ) (a b : List TokenNode) → is_live n (a ++ b) ≡ (is_live n a || is_live n b)
live_append n a b = list_any-append (λ (x : TokenNode). x.number == n) a b

apart : (n : ℕ) (xs : List TokenNode) → AllByRecursion (λ y. (n == y) ≡ false) (map (λ x. x.number) xs) → is_live n xs ≡ false
apart n [] h = refl
apart n (x ∷ xs) h = or_from _ _ (eqb_flip x.number n ∙ h.0) (apart n xs h.1)

apart_back : (n : ℕ) (xs : List TokenNode) → is_live n xs ≡ false → AllByRecursion (λ y. (n == y) ≡ false) (map (λ x. x.number) xs)
apart_back n [] h = tt
apart_back n (x ∷ xs) h = let p = or_parts _ _ h in (eqb_flip n x.number ∙ p.0, apart_back n xs p.1)

pub numbered_head : (x : TokenNode) (xs : List TokenNode) → IsNumbered (x ∷ xs) → is_live x.number xs ≡ false
unfolding IsDistinct
numbered_head x xs h = apart x.number xs h.0

pub numbered_tail : (x : TokenNode) (xs : List TokenNode) → IsNumbered (x ∷ xs) → IsNumbered xs
unfolding IsDistinct
numbered_tail x xs h = h.1

pub numbered_none : IsNumbered []
unfolding IsDistinct
numbered_none = tt

pub numbered_cons : (x : TokenNode) (xs : List TokenNode) → is_live x.number xs ≡ false → IsNumbered xs → IsNumbered (x ∷ xs)
unfolding IsDistinct
numbered_cons x xs l h = (apart_back x.number xs l, h)

pub live_left : (n : ℕ) (a b : List TokenNode) → is_live n a ≡ true → is_live n (a ++ b) ≡ true
live_left n a b h = live_append n a b ∙ or_left _ _ h

pub live_right : (n : ℕ) (a b : List TokenNode) → is_live n b ≡ true → is_live n (a ++ b) ≡ true
live_right n a b h = live_append n a b ∙ or_right _ _ h

pub live_cases : (n : ℕ) (a b : List TokenNode) → is_live n (a ++ b) ≡ true → (is_live n a ≡ true) ⊎ (is_live n b ≡ true)
live_cases n a b h = or_cases _ _ (sym (live_append n a b) ∙ h)

pub dead_parts : (n : ℕ) (a b : List TokenNode) → is_live n (a ++ b) ≡ false → (is_live n a ≡ false) × (is_live n b ≡ false)
dead_parts n a b h = or_parts _ _ (sym (live_append n a b) ∙ h)

pub dead_both : (n : ℕ) (a b : List TokenNode) → is_live n a ≡ false → is_live n b ≡ false → is_live n (a ++ b) ≡ false
dead_both n a b h k = live_append n a b ∙ or_from _ _ h k

pub numbered_left : (a b : List TokenNode) → IsNumbered (a ++ b) → IsNumbered a
numbered_left [] b h = numbered_none
numbered_left (x ∷ a) b h =
    numbered_cons x a (dead_parts x.number a b (numbered_head x (a ++ b) h)).0 (numbered_left a b (numbered_tail x (a ++ b) h))

pub numbered_right : (a b : List TokenNode) → IsNumbered (a ++ b) → IsNumbered b
numbered_right [] b h = h
numbered_right (x ∷ a) b h = numbered_right a b (numbered_tail x (a ++ b) h)

pub numbered_apart : (a b : List TokenNode) → IsNumbered (a ++ b) → (n : ℕ) → is_live n a ≡ true → is_live n b ≡ false
numbered_apart [] b h n l = absurd cc
numbered_apart (x ∷ a) b h n l =
    ⊎_elim
    (λ (e : (x.number == n) ≡ true). subst (λ m. is_live m b ≡ false) (own_number x n e) (dead_parts x.number a b (numbered_head x (a ++ b) h)).1)
    (λ (e : is_live n a ≡ true). numbered_apart a b (numbered_tail x (a ++ b) h) n e)
    (or_cases _ _ l)

pub numbered_append : (a b : List TokenNode) → IsNumbered a → IsNumbered b → ((n : ℕ) → is_live n a ≡ true → is_live n b ≡ false) → IsNumbered (a ++ b)
numbered_append [] b h k f = k
numbered_append (x ∷ a) b h k f =
    numbered_cons x (a ++ b) (dead_both x.number a b (numbered_head x a h) (f x.number (or_left _ _ (eq-eqb x.number x.number refl))))
    (numbered_append a b (numbered_tail x a h) k (λ n l. f n (or_right _ _ l)))

-- ---- the node of a number

pub node_left : (n : ℕ) (a b : List TokenNode) → is_live n a ≡ true → node_of n (a ++ b) ≡ node_of n a
node_left n [] b h = absurd cc
node_left n (x ∷ a) b h =
    elim (x.number == n) as (λ t. (t || is_live n a) ≡ true → cond t (Some x) (node_of n (a ++ b)) ≡ cond t (Some x) (node_of n a))
    [ true ↦ λ _. refl | false ↦ λ k. node_left n a b k ] h

pub node_right : (n : ℕ) (a b : List TokenNode) → is_live n a ≡ false → node_of n (a ++ b) ≡ node_of n b
node_right n [] b h = refl
node_right n (x ∷ a) b h =
    elim (x.number == n) as (λ t. (t || is_live n a) ≡ false → cond t (Some x) (node_of n (a ++ b)) ≡ node_of n b)
    [ true ↦ λ k. absurd cc | false ↦ λ k. node_right n a b k ] h

pub node_dead : (n : ℕ) (a : List TokenNode) → is_live n a ≡ false → node_of n a ≡ None
node_dead n [] h = refl
node_dead n (x ∷ a) h =
    elim (x.number == n) as (λ t. (t || is_live n a) ≡ false → cond t (Some x) (node_of n a) ≡ None)
    [ true ↦ λ k. absurd cc | false ↦ λ k. node_dead n a k ] h

pub partner_live : (n m : ℕ) (a : List TokenNode) → partner_of n a ≡ Some m → is_live n a ≡ true
partner_live n m a h =
    ⊎_elim (λ (l : is_live n a ≡ true). l) (λ (l : is_live n a ≡ false). absurd (let e = ap partner_in (node_dead n a l) in cc)) (cases_Bool (is_live n a))

-- ---- what stands before and behind the node of a number

pub record Found (n : ℕ) (nodes : List TokenNode) : Type 0 where
  pub node : TokenNode
  pub whole : nodes ≡ nodes_before n nodes ++ node ∷ nodes_after n nodes
  pub number : node.number ≡ n
  pub is_node : node_of n nodes ≡ Some node
  pub from_there : nodes_from n nodes ≡ node ∷ nodes_after n nodes
  pub up_there : nodes_to n nodes ≡ nodes_before n nodes ++ node ∷ []
  pub not_before : is_live n (nodes_before n nodes) ≡ false

found_here : (n : ℕ) (x : TokenNode) (xs : List TokenNode) → (x.number == n) ≡ true → Found n (x ∷ xs)
unfolding nodes_before nodes_after nodes_from nodes_to
found_here n x xs e = record {
  node = x;
  whole = rw e;
  number = own_number x n e;
  is_node = rw e;
  from_there = rw e;
  up_there = rw e;
  not_before = rw e;
}

found_later : (n : ℕ) (x : TokenNode) (xs : List TokenNode) → (x.number == n) ≡ false → Found n xs → Found n (x ∷ xs)
unfolding nodes_before nodes_after nodes_from nodes_to
found_later n x xs e f = record {
  node = f.node;
  whole = rw e (ap (λ t. x ∷ t) f.whole);
  number = f.number;
  is_node = rw e f.is_node;
  from_there = rw e f.from_there;
  up_there = rw e (ap (λ t. x ∷ t) f.up_there);
  not_before = rw e (rw e f.not_before);
}

pub found : (n : ℕ) (nodes : List TokenNode) → is_live n nodes ≡ true → Found n nodes
found n [] h = absurd cc
found n (x ∷ xs) h =
    ⊎_elim
    (λ (e : (x.number == n) ≡ true). found_here n x xs e)
    (λ (e : (x.number == n) ≡ false). found_later n x xs e (found n xs (sym (ap (λ t. t || is_live n xs) e) ∙ h)))
    (cases_Bool (x.number == n))
