-- Links over writes.
use Rattle.std.proofs.Common.{◌≡◌, ℕ, zero, suc, ◌<◌, arith, List, [], ◌∷◌, ◌++◌, Option, Some, None, Bool, true, false, ◌||◌, refl, sym, ap, ◌∙◌, subst, length, ⊎_elim, ◌==◌, set, get_or}
use Rattle.std.specs.List.{list_any, slice_get}
use Rattle.std.proofs.lemmas.Bool.{both_ways, eq-eqb, eqb-true, false_from_ne_true, or_left, or_parts, or_right, or_cases}
use Rattle.cx_tokens.specs.declared.slots.Slot.{Slot}
use Rattle.cx_tokens.specs.declared.token.Token.{Token}
use Rattle.cx_tokens.specs.Nodes.{TokenNode, first_of, is_live}
use Rattle.cx_tokens.specs.Shapes.Links.{FreeLinked, IsWithin, Linked, changed, changed_at, first_free, first_or, free_slot, last_or, links_of, node_of_slot, slot_of, walk, with_next, with_previous}
use Rattle.cx_tokens.proofs.NodeLaws.{IsNumbered, numbered_head, numbered_tail, own_number}

-- ---- one slot

pub changed_same : (n : ℕ) (f : Slot → Slot) (s : List Slot) (x : Slot) → slice_get s n ≡ Some x → slice_get (changed n f s) n ≡ Some (f x)
unfolding changed
changed_same zero f [] x h = absurd cc
changed_same (suc n) f [] x h = absurd cc
changed_same zero f (y ∷ s) x h = ap Some (ap f (inner h))
  where
    inner : {a b : Slot} → Some a ≡ Some b → a ≡ b
    inner h = cc
changed_same (suc n) f (y ∷ s) x h = changed_same n f s x h

pub changed_other : (m n : ℕ) (f : Slot → Slot) (s : List Slot) → (n ≡ m → ⊥) → slice_get (changed m f s) n ≡ slice_get s n
unfolding changed
changed_other zero zero f s h = absurd (h refl)
changed_other (suc m) n f [] h = refl
changed_other zero (suc n) f [] h = refl
changed_other zero (suc n) f (x ∷ s) h = refl
changed_other (suc m) zero f (x ∷ s) h = refl
changed_other (suc m) (suc n) f (x ∷ s) h = changed_other m n f s (λ e. h (ap suc e))

pub changed_set : (n : ℕ) (f : Slot → Slot) (s : List Slot) (x : Slot) → slice_get s n ≡ Some x → set s n (f x) ≡ changed n f s
unfolding changed
changed_set zero f [] x h = refl
changed_set (suc n) f [] x h = refl
changed_set zero f (y ∷ s) x h = ap (λ t. f t ∷ s) (inner h)
  where
    inner : {a b : Slot} → Some a ≡ Some b → b ≡ a
    inner h = cc
changed_set (suc n) f (y ∷ s) x h = ap (λ t. y ∷ t) (changed_set n f s x h)

pub changed_length : (n : ℕ) (f : Slot → Slot) (s : List Slot) → length (changed n f s) ≡ length s
unfolding changed
changed_length zero f [] = refl
changed_length (suc n) f [] = refl
changed_length zero f (y ∷ s) = refl
changed_length (suc n) f (y ∷ s) = ap suc (changed_length n f s)

pub slot_read : (s : List Slot) (n : ℕ) → n < length s → (x : Slot) × (slice_get s n ≡ Some x) × ((d : Slot) → x ≡ get_or s n d)
slot_read [] n l = absurd (omega arith)
slot_read (x ∷ s) zero l = (x, refl, λ d. refl)
slot_read (x ∷ s) (suc n) l = slot_read s n (omega arith)

-- a write of what was read
pub written : (s t : List Slot) (n : ℕ) (f : Slot → Slot) → n < length s → ((a : Slot) → a ≡ get_or s n a → t ≡ set s n (f a)) → t ≡ changed n f s
written s t n f l h = let r = slot_read s n l in h r.0 (r.2 r.0) ∙ changed_set n f s r.0 r.1

pub stored : (s t : List Slot) (n : ℕ) (x : Slot) → n < length s → t ≡ set s n x → t ≡ changed n (λ old. x) s
stored s t n x l h = let r = slot_read s n l in h ∙ changed_set n (λ old. x) s r.0 r.1

pub read_is : (s : List Slot) (n : ℕ) (x : Slot) → n < length s → x ≡ get_or s n x → slice_get s n ≡ Some x
read_is s n x l h = let r = slot_read s n l in r.1 ∙ ap Some (r.2 x ∙ sym h)

pub length_at : (o : Option ℕ) (f : Slot → Slot) (s : List Slot) → length (changed_at o f s) ≡ length s
unfolding changed_at
length_at None f s = refl
length_at (Some m) f s = changed_length m f s

pub within_same : (s t : List Slot) (o : Option ℕ) → length t ≡ length s → IsWithin s o → IsWithin t o
within_same s t None e h = tt
within_same s t (Some n) e h = subst (λ k. n < k) (sym e) h

not_same : (x : TokenNode) (m : ℕ) → (x.number == m) ≡ false → x.number ≡ m → ⊥
not_same x m h e = both_ways (x.number == m) h (eq-eqb x.number m e)

-- ---- a write elsewhere

pub linked_frame : (m : ℕ) (f : Slot → Slot) (s : List Slot) (p : Option ℕ) (ys : List TokenNode) (q : Option ℕ) → is_live m ys ≡ false → Linked s p ys q → Linked (changed m f s) p ys q
linked_frame m f s p [] q d h = tt
linked_frame m f s p (y ∷ ys) q d h =
    let e = or_parts _ _ d in
    (changed_other m y.number f s (not_same y m e.0) ∙ h.0, linked_frame m f s (Some y.number) ys q e.1 h.1)

abbrev pub IsElsewhere : Option ℕ → List TokenNode → Type 0
IsElsewhere None ys = Unit {0}
IsElsewhere (Some m) ys = is_live m ys ≡ false

pub linked_frame_at : (o : Option ℕ) (f : Slot → Slot) (s : List Slot) (p : Option ℕ) (ys : List TokenNode) (q : Option ℕ) → IsElsewhere o ys → Linked s p ys q → Linked (changed_at o f s) p ys q
unfolding changed_at
linked_frame_at None f s p ys q d h = h
linked_frame_at (Some m) f s p ys q d h = linked_frame m f s p ys q d h

pub free_frame : (m : ℕ) (f : Slot → Slot) (s : List Slot) (ns : List ℕ) → list_any (λ n. n == m) ns ≡ false → FreeLinked s ns → FreeLinked (changed m f s) ns
free_frame m f s [] d h = tt
free_frame m f s (n ∷ ns) d h =
    let e = or_parts _ _ d in
    (changed_other m n f s (λ k. both_ways (n == m) e.0 (eq-eqb n m k)) ∙ h.0, free_frame m f s ns e.1 h.1)

-- ---- two lists of nodes, one after the other

pub linked_parts : (s : List Slot) (p : Option ℕ) (a b : List TokenNode) (q : Option ℕ) → Linked s p (a ++ b) q → Linked s p a (first_or b q) × Linked s (last_or a p) b q
linked_parts s p [] b q h = (tt, h)
linked_parts s p (y ∷ []) b q h = ((h.0, tt), h.1)
linked_parts s p (y ∷ z ∷ a) b q h = let r = linked_parts s (Some y.number) (z ∷ a) b q h.1 in ((h.0, r.0), r.1)

pub linked_both : (s : List Slot) (p : Option ℕ) (a b : List TokenNode) (q : Option ℕ) → Linked s p a (first_or b q) → Linked s (last_or a p) b q → Linked s p (a ++ b) q
linked_both s p [] b q h k = k
linked_both s p (y ∷ []) b q h k = (h.0, k)
linked_both s p (y ∷ z ∷ a) b q h k = (h.0, linked_both s (Some y.number) (z ∷ a) b q h.1 k)

-- ---- other links at the ends

pub last_live_or : (a : List TokenNode) (n : ℕ) → (m : ℕ) × (last_or a (Some n) ≡ Some m) × ((is_live m a || (n == m)) ≡ true)
last_live_or [] n = (n, refl, or_right (is_live n []) (n == n) (eq-eqb n n refl))
last_live_or (y ∷ a) n =
    let r = last_live_or a y.number in
    (r.0, r.1, or_left _ _ (turn (is_live r.0 a) (y.number == r.0) r.2))
  where
    turn : (a b : Bool) → (a || b) ≡ true → (b || a) ≡ true
    turn true true h = refl
    turn true false h = refl
    turn false true h = refl
    turn false false h = h

pub relink_last : (r : Option ℕ) (s : List Slot) (p : Option ℕ) (a : List TokenNode) (q : Option ℕ) → IsNumbered a → Linked s p a q → Linked (changed_at (last_or a None) (with_next r) s) p a r
unfolding changed_at
relink_last r s p [] q d h = tt
relink_last r s p (y ∷ []) q d h = (changed_same y.number (with_next r) s (slot_of y p q) h.0, tt)
relink_last r s p (y ∷ z ∷ a) q d h =
    let e = last_live_or (z ∷ a) y.number in
    let l = last_live_or a z.number in
    let lives : is_live l.0 (z ∷ a) ≡ true = turn (is_live l.0 a) (z.number == l.0) l.2 in
    let other : y.number ≡ l.0 → ⊥ = λ k. both_ways (is_live l.0 (z ∷ a)) (subst (λ n. is_live n (z ∷ a) ≡ false) k (numbered_head y (z ∷ a) d)) lives in (
      subst (λ o. slice_get (changed_at o (with_next r) s) y.number ≡ Some (slot_of y p (Some z.number))) (sym l.1) (changed_other l.0 y.number (with_next r) s other ∙ h.0),
      relink_last r s (Some y.number) (z ∷ a) q (numbered_tail y (z ∷ a) d) h.1,
    )
  where
    turn : (a b : Bool) → (a || b) ≡ true → (b || a) ≡ true
    turn true true h = refl
    turn true false h = refl
    turn false true h = refl
    turn false false h = h

pub relink_first : (r : Option ℕ) (s : List Slot) (p : Option ℕ) (b : List TokenNode) (q : Option ℕ) → IsNumbered b → Linked s p b q → Linked (changed_at (first_or b None) (with_previous r) s) r b q
unfolding changed_at
relink_first r s p [] q d h = tt
relink_first r s p (y ∷ b) q d h = (
  changed_same y.number (with_previous r) s (slot_of y p (first_or b q)) h.0,
  linked_frame y.number (with_previous r) s (Some y.number) b q (numbered_head y b d) h.1,
)

-- ---- what is read

pub linked_look : (n : ℕ) (s : List Slot) (p : Option ℕ) (ys : List TokenNode) (q : Option ℕ) → Linked s p ys q → is_live n ys ≡ true → (x : Slot) × (slice_get s n ≡ Some x) × (t : Token) × (x.token ≡ Some t)
linked_look n s p [] q h l = absurd cc
linked_look n s p (y ∷ ys) q h l =
    ⊎_elim
    (λ (e : (y.number == n) ≡ true).
    (slot_of y p (first_or ys q), (subst (λ m. slice_get s m ≡ Some (slot_of y p (first_or ys q))) (own_number y n e) h.0), y.token, refl))
    (λ (e : is_live n ys ≡ true). linked_look n s (Some y.number) ys q h.1 e)
    (or_cases _ _ l)

pub free_look : (n : ℕ) (s : List Slot) (ns : List ℕ) → FreeLinked s ns → list_any (λ k. k == n) ns ≡ true → (x : Slot) × (slice_get s n ≡ Some x) × (x.token ≡ None)
free_look n s [] h l = absurd cc
free_look n s (k ∷ ns) h l =
    ⊎_elim
    (λ (e : (k == n) ≡ true). (free_slot (first_free ns), subst (λ m. slice_get s m ≡ Some (free_slot (first_free ns))) (eqb-true k n e) h.0, refl))
    (λ (e : list_any (λ k. k == n) ns ≡ true). free_look n s ns h.1 e)
    (or_cases _ _ l)

pub live_not_free : (n : ℕ) (s : List Slot) (p : Option ℕ) (ys : List TokenNode) (q : Option ℕ) (ns : List ℕ) → Linked s p ys q → FreeLinked s ns → is_live n ys ≡ true → list_any (λ k. k == n) ns ≡ false
live_not_free n s p ys q ns h k l =
    false_from_ne_true (list_any (λ k. k == n) ns)
    (λ f. let a = linked_look n s p ys q h l in let b = free_look n s ns k f in clash a.0 b.0 a.2 (sym a.1 ∙ b.1) a.3 b.2)
  where
    clash : (a b : Slot) (t : Token) → Some a ≡ Some b → a.token ≡ Some t → b.token ≡ None → ⊥
    clash a b t e f g = absurd cc

pub free_not_live : (n : ℕ) (s : List Slot) (p : Option ℕ) (ys : List TokenNode) (q : Option ℕ) (ns : List ℕ) → Linked s p ys q → FreeLinked s ns → list_any (λ k. k == n) ns ≡ true → is_live n ys ≡ false
free_not_live n s p ys q ns h k l =
    false_from_ne_true (is_live n ys) (λ f. both_ways (list_any (λ k. k == n) ns) (live_not_free n s p ys q ns h k f) l)

-- ---- the walk

pub walk_linked : (s : List Slot) (p : Option ℕ) (ys : List TokenNode) → Linked s p ys None → walk (length ys) (first_of ys) s ≡ ys
unfolding walk
walk_linked s p [] h = refl
walk_linked s p (y ∷ []) h = ap (λ o. node_of_slot y.number o (walk zero (links_of o) s)) h.0
walk_linked s p (y ∷ z ∷ ys) h = ap (λ o. node_of_slot y.number o (walk (suc (length ys)) (links_of o) s)) h.0 ∙ ap (λ t. y ∷ t) (walk_linked s (Some y.number) (z ∷ ys) h.1)
