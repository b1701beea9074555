-- Edits of linked nodes.
use Rattle.std.proofs.Common.{◌≡◌, ℕ, List, [], ◌∷◌, ◌++◌, Option, Some, None, Bool, true, false, ◌||◌, refl, sym, ap, ap₂, ◌∙◌, subst, cond, map, length, append_assoc, ⊎_elim, ◌==◌}
use Rattle.std.specs.List.{AllByRecursion, IsDistinct, list_any, slice_get}
use Rattle.std.proofs.lemmas.Bool.{both_ways, cases_Bool, cond-false, cond-true, eq-eqb, eqb-true, false_from_ne_true, or_cases, or_from, or_left, or_parts, or_right}
use Rattle.cx_tokens.specs.declared.slots.Slot.{Slot}
use Rattle.cx_tokens.specs.Nodes.{IsTokenList, TokenNode, is_live, node_of, partner_in, with_live_partners}
use Rattle.cx_tokens.specs.Shapes.Links.{FreeLinked, Linked, changed, changed_at, first_free, first_or, free_slot, last_or, parted_at, put_between, slot_of, taken_between, with_mate, with_next, with_previous}
use Rattle.cx_tokens.proofs.NodeLaws.{IsNumbered, dead_parts, live_left, live_right, numbered_apart, numbered_cons, numbered_head, numbered_left, numbered_none, numbered_right, numbered_tail, own_number}
use Rattle.cx_tokens.proofs.PartLaws.{IsFresh, kept_numbered, node_at, partners_kept, settled_list, settled_parted, fresh_none, same_settled, partner_unless, without_partner, without_partners}
use Rattle.cx_tokens.proofs.LinkLaws.{IsElsewhere, changed_length, changed_other, changed_same, free_frame, last_live_or, linked_both, linked_frame, linked_frame_at, linked_parts, length_at, live_not_free, relink_first, relink_last}

-- ---- what stands elsewhere

flip : (a b : Bool) → (a || b) ≡ true → (b || a) ≡ true
flip true true h = refl
flip true false h = refl
flip false true h = refl
flip false false h = h

last_elsewhere : (a ys : List TokenNode) → ((n : ℕ) → is_live n a ≡ true → is_live n ys ≡ false) → IsElsewhere (last_or a None) ys
last_elsewhere [] ys h = tt
last_elsewhere (y ∷ a) ys h =
    let l = last_live_or a y.number in
    subst (λ o. IsElsewhere o ys) (sym l.1) (h l.0 (flip (is_live l.0 a) (y.number == l.0) l.2))

first_elsewhere : (b ys : List TokenNode) → ((n : ℕ) → is_live n b ≡ true → is_live n ys ≡ false) → IsElsewhere (first_or b None) ys
first_elsewhere [] ys h = tt
first_elsewhere (y ∷ b) ys h = h y.number (or_left _ _ (eq-eqb y.number y.number refl))

apart_back : (a b : List TokenNode) → IsNumbered (a ++ b) → (n : ℕ) → is_live n b ≡ true → is_live n a ≡ false
apart_back a b d n l = false_from_ne_true (is_live n a) (λ e. both_ways (is_live n b) (numbered_apart a b d n e) l)

-- no node of a number stands in one that has another
one_elsewhere : (x : TokenNode) (ys : List TokenNode) → is_live x.number ys ≡ false → (n : ℕ) → is_live n ys ≡ true → is_live n (x ∷ []) ≡ false
one_elsewhere x ys d n l =
    or_from _ _ (false_from_ne_true (x.number == n) (λ e. both_ways (is_live n ys) (subst (λ m. is_live m ys ≡ false) (own_number x n e) d) l)) refl

-- ---- a node changed

pub change_linked : (s : List Slot) (a : List TokenNode) (y z : TokenNode) (b : List TokenNode) (f : Slot → Slot) → z.number ≡ y.number → ((p q : Option ℕ) → f (slot_of y p q) ≡ slot_of z p q) → IsNumbered (a ++ y ∷ b)
    → Linked s None (a ++ y ∷ b) None → Linked (changed y.number f s) None (a ++ z ∷ b) None
change_linked s a y z b f e g d k =
    let p = last_or a None in
    let q = first_or b None in
    let t = changed y.number f s in
    let parts = linked_parts s None a (y ∷ b) None k in
    let right = numbered_right a (y ∷ b) d in
    let not_front : is_live y.number a ≡ false = apart_back a (y ∷ b) d y.number (or_left _ _ (eq-eqb y.number y.number refl)) in
    let here : slice_get t y.number ≡ Some (slot_of z p q) = changed_same y.number f s (slot_of y p q) parts.1.0 ∙ ap Some (g p q) in
    linked_both t None a (z ∷ b) None (subst (λ n. Linked t None a (Some n)) (sym e) (linked_frame y.number f s None a (Some y.number) not_front parts.0)) (
      subst (λ n. slice_get t n ≡ Some (slot_of z p q)) (sym e) here,
      subst (λ n. Linked t (Some n) b None) (sym e) (linked_frame y.number f s (Some y.number) b None (numbered_head y b right) parts.1.1),
    )

-- ---- a node put in

pub put_linked : (s : List Slot) (a b : List TokenNode) (x : TokenNode) (old : Slot) → IsNumbered (a ++ b) → is_live x.number (a ++ b) ≡ false → slice_get s x.number ≡ Some old
    → Linked s None (a ++ b) None → Linked (put_between (last_or a None) x (first_or b None) s) None (a ++ x ∷ b) None
unfolding put_between
put_linked s a b x old d l h k =
    let p = last_or a None in
    let q = first_or b None in
    let parts = linked_parts s None a b None k in
    let dead = dead_parts x.number a b l in
    let fill = λ (old : Slot). slot_of x p q in
    let s1 = changed x.number fill s in
    let a1 = linked_frame x.number fill s None a q dead.0 parts.0 in
    let b1 = linked_frame x.number fill s p b None dead.1 parts.1 in
    let x1 : Linked s1 p (x ∷ []) q = (changed_same x.number fill s old h, tt) in
    let to_x = with_next (Some x.number) in
    let s2 = changed_at p to_x s1 in
    let a2 = relink_last (Some x.number) s1 None a q (numbered_left a b d) a1 in
    let b2 = linked_frame_at p to_x s1 p b None (last_elsewhere a b (numbered_apart a b d)) b1 in
    let x2 = linked_frame_at p to_x s1 p (x ∷ []) q (last_elsewhere a (x ∷ []) (one_elsewhere x a dead.0)) x1 in
    let from_x = with_previous (Some x.number) in
    let s3 = changed_at q from_x s2 in
    let a3 = linked_frame_at q from_x s2 None a (Some x.number) (first_elsewhere b a (apart_back a b d)) a2 in
    let b3 = relink_first (Some x.number) s2 p b None (numbered_right a b d) b2 in
    let x3 = linked_frame_at q from_x s2 p (x ∷ []) q (first_elsewhere b (x ∷ []) (one_elsewhere x b dead.1)) x2 in
    linked_both s3 None a (x ∷ b) None a3 (linked_both s3 p (x ∷ []) b None x3 b3)

abbrev pub IsBusy : Option ℕ → List ℕ → Type 0
IsBusy None ns = Unit {0}
IsBusy (Some m) ns = list_any (λ n. n == m) ns ≡ false

pub free_frame_at : (o : Option ℕ) (f : Slot → Slot) (s : List Slot) (ns : List ℕ) → IsBusy o ns → FreeLinked s ns → FreeLinked (changed_at o f s) ns
unfolding changed_at
free_frame_at None f s ns d h = h
free_frame_at (Some m) f s ns d h = free_frame m f s ns d h

last_busy : (a : List TokenNode) (ns : List ℕ) → ((n : ℕ) → is_live n a ≡ true → list_any (λ k. k == n) ns ≡ false) → IsBusy (last_or a None) ns
last_busy [] ns h = tt
last_busy (y ∷ a) ns h = let l = last_live_or a y.number in subst (λ o. IsBusy o ns) (sym l.1) (h l.0 (flip (is_live l.0 a) (y.number == l.0) l.2))

first_busy : (b : List TokenNode) (ns : List ℕ) → ((n : ℕ) → is_live n b ≡ true → list_any (λ k. k == n) ns ≡ false) → IsBusy (first_or b None) ns
first_busy [] ns h = tt
first_busy (y ∷ b) ns h = h y.number (or_left _ _ (eq-eqb y.number y.number refl))

any_apart : (n : ℕ) (ns : List ℕ) → AllByRecursion (λ k. (n == k) ≡ false) ns → list_any (λ k. k == n) ns ≡ false
any_apart n [] h = refl
any_apart n (k ∷ ns) h = or_from _ _ (turned n k h.0) (any_apart n ns h.1)
  where
    turned : (n k : ℕ) → (n == k) ≡ false → (k == n) ≡ false
    turned n k h = false_from_ne_true (k == n) (λ e. both_ways (n == k) h (eq-eqb n k (sym (eqb-true k n e))))

apart_any : (n : ℕ) (ns : List ℕ) → list_any (λ k. k == n) ns ≡ false → AllByRecursion (λ k. (n == k) ≡ false) ns
apart_any n [] h = tt
apart_any n (k ∷ ns) h = let p = or_parts _ _ h in (turned n k p.0, apart_any n ns p.1)
  where
    turned : (n k : ℕ) → (k == n) ≡ false → (n == k) ≡ false
    turned n k h = false_from_ne_true (n == k) (λ e. both_ways (k == n) h (eq-eqb k n (sym (eqb-true n k e))))

pub distinct_head : (n : ℕ) (ns : List ℕ) → IsDistinct (λ a b. a == b) (n ∷ ns) → list_any (λ k. k == n) ns ≡ false
unfolding IsDistinct
distinct_head n ns h = any_apart n ns h.0

pub distinct_tail : (n : ℕ) (ns : List ℕ) → IsDistinct (λ a b. a == b) (n ∷ ns) → IsDistinct (λ a b. a == b) ns
unfolding IsDistinct
distinct_tail n ns h = h.1

pub distinct_cons : (n : ℕ) (ns : List ℕ) → list_any (λ k. k == n) ns ≡ false → IsDistinct (λ a b. a == b) ns → IsDistinct (λ a b. a == b) (n ∷ ns)
unfolding IsDistinct
distinct_cons n ns l h = (apart_any n ns l, h)

pub put_free : (s : List Slot) (a b : List TokenNode) (x : TokenNode) (ns : List ℕ) → Linked s None (a ++ b) None → FreeLinked s ns → list_any (λ k. k == x.number) ns ≡ false
    → FreeLinked (put_between (last_or a None) x (first_or b None) s) ns
unfolding put_between
put_free s a b x ns k h d =
    let p = last_or a None in
    let q = first_or b None in
    let busy = λ (n : ℕ) (l : is_live n (a ++ b) ≡ true). live_not_free n s None (a ++ b) None ns k h l in
    let fill = λ (old : Slot). slot_of x p q in
    free_frame_at q (with_previous (Some x.number)) (changed_at p (with_next (Some x.number)) (changed x.number fill s)) ns
    (first_busy b ns (λ n l. busy n (live_right n a b l)))
    (free_frame_at p (with_next (Some x.number)) (changed x.number fill s) ns (last_busy a ns (λ n l. busy n (live_left n a b l)))
    (free_frame x.number fill s ns d h))

pub put_length : (p : Option ℕ) (x : TokenNode) (q : Option ℕ) (s : List Slot) → length (put_between p x q s) ≡ length s
unfolding put_between
put_length p x q s = length_at q _ _ ∙ length_at p _ _ ∙ changed_length x.number _ s

pub put_list : (a b : List TokenNode) (x : TokenNode) → x.partner ≡ None → is_live x.number (a ++ b) ≡ false → IsTokenList (a ++ b) → IsTokenList (a ++ x ∷ b)
put_list a b x e d k =
    let f : IsFresh (x ∷ []) (a ++ b) = record {
      numbered = numbered_cons x [] refl numbered_none;
      alone = (e, tt);
      fresh = λ n l. subst (λ m. is_live m (a ++ b) ≡ false) (one_number x n l) d;
    } in
    subst IsTokenList (same_settled a b (x ∷ []) k f) (settled_list (a ++ b) (a ++ x ∷ b) k (partners_kept a [] b (x ∷ []) k.distinct f))
  where
    one_number : (x : TokenNode) (n : ℕ) → is_live n (x ∷ []) ≡ true → x.number ≡ n
    one_number x n l = ⊎_elim (λ (e : (x.number == n) ≡ true). own_number x n e) (λ (e : false ≡ true). absurd cc) (or_cases (x.number == n) false l)

-- ---- a node taken out

pub take_linked : (s : List Slot) (a b : List TokenNode) (y : TokenNode) (free : Option ℕ) → IsNumbered (a ++ y ∷ b) → Linked s None (a ++ y ∷ b) None
    → Linked (taken_between (last_or a None) y.number (first_or b None) free s) None (a ++ b) None
unfolding taken_between
take_linked s a b y free d k =
    let p = last_or a None in
    let q = first_or b None in
    let n = y.number in
    let parts = linked_parts s None a (y ∷ b) None k in
    let out = λ (old : Slot). free_slot free in
    let numbered = numbered_right a (y ∷ b) d in
    let both : IsNumbered (a ++ b) = kept_numbered a (y ∷ []) b [] d (fresh_none (a ++ y ∷ b)) in
    let a_dead : is_live n a ≡ false = apart_back a (y ∷ b) d n (or_left _ _ (eq-eqb n n refl)) in
    let s1 = changed n out s in
    let a1 = linked_frame n out s None a (Some n) a_dead parts.0 in
    let b1 = linked_frame n out s (Some n) b None (numbered_head y b numbered) parts.1.1 in
    let s2 = changed_at p (with_next q) s1 in
    let a2 = relink_last q s1 None a (Some n) (numbered_left a (y ∷ b) d) a1 in
    let b2 = linked_frame_at p (with_next q) s1 (Some n) b None (last_elsewhere a b (numbered_apart a b both)) b1 in
    let a3 = linked_frame_at q (with_previous p) s2 None a q (first_elsewhere b a (apart_back a b both)) a2 in
    let b3 = relink_first p s2 (Some n) b None (numbered_tail y b numbered) b2 in
    linked_both (changed_at q (with_previous p) s2) None a b None a3 b3

-- a slot at another index
other_at : (o : Option ℕ) (n : ℕ) (f : Slot → Slot) (s : List Slot) → IsBusy o (n ∷ []) → slice_get (changed_at o f s) n ≡ slice_get s n
unfolding changed_at
other_at None n f s h = refl
other_at (Some m) n f s h = changed_other m n f s (λ e. both_ways (n == m) (or_parts _ _ h).0 (eq-eqb n m e))

one_busy : (y : TokenNode) (ys : List TokenNode) → is_live y.number ys ≡ false → (n : ℕ) → is_live n ys ≡ true → list_any (λ k. k == n) (y.number ∷ []) ≡ false
one_busy y ys d n l = one_elsewhere y ys d n l

pub take_free : (s : List Slot) (a b : List TokenNode) (y : TokenNode) (ns : List ℕ) → IsNumbered (a ++ y ∷ b) → Linked s None (a ++ y ∷ b) None → FreeLinked s ns
    → FreeLinked (taken_between (last_or a None) y.number (first_or b None) (first_free ns) s) (y.number ∷ ns)
unfolding taken_between
take_free s a b y ns d k h =
    let p = last_or a None in
    let q = first_or b None in
    let n = y.number in
    let out = λ (old : Slot). free_slot (first_free ns) in
    let busy = λ (m : ℕ) (l : is_live m (a ++ y ∷ b) ≡ true). live_not_free m s None (a ++ y ∷ b) None ns k h l in
    let n_live : is_live n (y ∷ b) ≡ true = or_left _ _ (eq-eqb n n refl) in
    let a_dead : is_live n a ≡ false = apart_back a (y ∷ b) d n n_live in
    let b_dead : is_live n b ≡ false = numbered_head y b (numbered_right a (y ∷ b) d) in
    let s1 = changed n out s in
    let s2 = changed_at p (with_next q) s1 in (
      other_at q n (with_previous p) s2 (first_busy b (n ∷ []) (one_busy y b b_dead))
          ∙ other_at p n (with_next q) s1 (last_busy a (n ∷ []) (one_busy y a a_dead))
          ∙ changed_same n out s (slot_of y p q) (linked_parts s None a (y ∷ b) None k).1.0,
      free_frame_at q (with_previous p) s2 ns (first_busy b ns (λ m l. busy m (live_right m a (y ∷ b) (or_right _ _ l))))
          (free_frame_at p (with_next q) s1 ns (last_busy a ns (λ m l. busy m (live_left m a (y ∷ b) l)))
          (free_frame n out s ns (busy n (live_right n a (y ∷ b) n_live)) h)),
    )

pub take_length : (p : Option ℕ) (n : ℕ) (q free : Option ℕ) (s : List Slot) → length (taken_between p n q free s) ≡ length s
unfolding taken_between
take_length p n q free s = length_at q _ _ ∙ length_at p _ _ ∙ changed_length n _ s

-- ---- the partner of a node that is taken out

parted_number : (o : Option ℕ) (x : TokenNode) → (parted_at o x).number ≡ x.number
unfolding parted_at
parted_number None x = refl
parted_number (Some m) x =
    elim (x.number == m) as (λ b. (cond b (record { number = x.number; token = x.token; partner = None }) x).number ≡ x.number) [ true ↦ refl | false ↦ refl ]

parted_dead : (m : ℕ) (ys : List TokenNode) → is_live m ys ≡ false → map (parted_at (Some m)) ys ≡ ys
unfolding parted_at
parted_dead m [] d = refl
parted_dead m (y ∷ ys) d =
    let e = or_parts _ _ d in
    ap₂ (λ x t. x ∷ t) (cond-false (y.number == m) (record { number = y.number; token = y.token; partner = None }) y e.0) (parted_dead m ys e.1)

first_parted : (o : Option ℕ) (ys : List TokenNode) (q : Option ℕ) → first_or (map (parted_at o) ys) q ≡ first_or ys q
first_parted o [] q = refl
first_parted o (y ∷ ys) q = ap Some (parted_number o y)

part_linked : (m : ℕ) (s : List Slot) (p : Option ℕ) (ys : List TokenNode) (q : Option ℕ) → IsNumbered ys → Linked s p ys q
    → Linked (changed m (with_mate None) s) p (map (parted_at (Some m)) ys) q
unfolding parted_at
part_linked m s p [] q d h = tt
part_linked m s p (y ∷ ys) q d h =
    let t = changed m (with_mate None) s in
    let off : TokenNode = record { number = y.number; token = y.token; partner = None } in
    ⊎_elim
    (λ (e : (y.number == m) ≡ true).
    let is = own_number y m e in
    let dead : is_live m ys ≡ false = subst (λ n. is_live n ys ≡ false) is (numbered_head y ys d) in
    subst (λ z. Linked t p (z ∷ map (parted_at (Some m)) ys) q) (sym (cond-true (y.number == m) off y e))
    (subst (λ zs. Linked t p (off ∷ zs) q) (sym (parted_dead m ys dead)) (
      subst (λ n. slice_get (changed n (with_mate None) s) y.number ≡ Some (slot_of off p (first_or ys q))) is (changed_same y.number (with_mate None) s (slot_of y p (first_or ys q)) h.0),
      linked_frame m (with_mate None) s (Some y.number) ys q dead h.1,
    )))
    (λ (e : (y.number == m) ≡ false).
    subst (λ z. Linked t p (z ∷ map (parted_at (Some m)) ys) q) (sym (cond-false (y.number == m) off y e)) (
      changed_other m y.number (with_mate None) s (λ k. both_ways (y.number == m) e (eq-eqb y.number m k)) ∙ h.0 ∙ ap (λ o. Some (slot_of y p o)) (sym (first_parted (Some m) ys q)),
      part_linked m s (Some y.number) ys q (numbered_tail y ys d) h.1,
    ))
    (cases_Bool (y.number == m))

pub part_linked_at : (o : Option ℕ) (s : List Slot) (p : Option ℕ) (ys : List TokenNode) (q : Option ℕ) → IsNumbered ys → Linked s p ys q
    → Linked (changed_at o (with_mate None) s) p (map (parted_at o) ys) q
unfolding changed_at parted_at
part_linked_at None s p ys q d h = subst (λ t. Linked s p t q) (sym (all_same ys)) h
  where
    all_same : (ys : List TokenNode) → map (parted_at None) ys ≡ ys
    all_same [] = refl
    all_same (y ∷ ys) = ap (λ t. y ∷ t) (all_same ys)
part_linked_at (Some m) s p ys q d h = part_linked m s p ys q d h

parted_same : (n : ℕ) (o : Option ℕ) (z : TokenNode) → (z.partner ≡ Some n → o ≡ Some z.number) → (o ≡ Some z.number → z.partner ≡ Some n) → parted_at o z ≡ without_partner (n ∷ []) z
unfolding without_partner partner_unless parted_at
parted_same n o z f g = parts o z.partner refl f g
  where
    with_it : Option ℕ → TokenNode
    with_it v = record { number = z.number; token = z.token; partner = v }

    left_is : (o v : Option ℕ) → z.partner ≡ v → (v ≡ None → ⊥) → (o ≡ Some z.number → ⊥) → parted_at o z ≡ with_it v
    left_is None v e k h = ap with_it e
    left_is (Some m) v e k h =
        let no : (z.number == m) ≡ false = false_from_ne_true (z.number == m) (λ t. h (ap Some (sym (own_number z m t)))) in
        cond-false (z.number == m) (with_it None) z no ∙ ap with_it e

    gone_is : (o : Option ℕ) → o ≡ Some z.number → parted_at o z ≡ with_it None
    gone_is None h = absurd cc
    gone_is (Some m) h = cond-true (z.number == m) (with_it None) z (eq-eqb z.number m (let k = h in cc))

    none_is : (o : Option ℕ) → z.partner ≡ None → parted_at o z ≡ with_it None
    none_is None e = ap with_it e
    none_is (Some m) e = elim (z.number == m) as (λ b. cond b (with_it None) z ≡ with_it None) [ true ↦ refl | false ↦ ap with_it e ]

    parts : (o v : Option ℕ) → z.partner ≡ v → (z.partner ≡ Some n → o ≡ Some z.number) → (o ≡ Some z.number → z.partner ≡ Some n)
        → parted_at o z ≡ with_it (partner_unless (n ∷ []) z.partner)
    parts o None e f g = none_is o e ∙ ap (λ v. with_it (partner_unless (n ∷ []) v)) (sym e)
    parts o (Some k) e f g =
        ⊎_elim
        (λ (t : (n == k) ≡ true).
        gone_is o (f (e ∙ ap Some (sym (eqb-true n k t))))
        ∙ sym (ap with_it (ap (partner_unless (n ∷ [])) e ∙ cond-true (list_any (λ g. g == k) (n ∷ [])) None (Some k) (or_left _ _ t))))
        (λ (t : (n == k) ≡ false).
        left_is o (Some k) e (λ h. absurd cc) (λ h. both_ways (n == k) t (eq-eqb n k (let w = g h in cc)))
        ∙ sym (ap with_it (ap (partner_unless (n ∷ [])) e ∙ cond-false (list_any (λ g. g == k) (n ∷ [])) None (Some k) (or_from _ _ t refl))))
        (cases_Bool (n == k))

each_node : (front xs : List TokenNode) → IsTokenList (front ++ xs) → AllByRecursion (λ z. node_of z.number (front ++ xs) ≡ Some z) xs
each_node front [] l = tt
each_node front (x ∷ xs) l =
    let q = append_assoc front (x ∷ []) xs in
    (node_at front x xs l.distinct, subst (λ t. AllByRecursion (λ z. node_of z.number t ≡ Some z) xs) q (each_node (front ++ x ∷ []) xs (subst IsTokenList (sym q) l)))

all_apart : (P : TokenNode → Type 0) (a : List TokenNode) (y : TokenNode) (b : List TokenNode) → AllByRecursion P (a ++ y ∷ b) → AllByRecursion P (a ++ b)
all_apart P [] y b h = h.1
all_apart P (x ∷ a) y b h = (h.0, all_apart P a y b h.1)

all_parted : (nodes : List TokenNode) (y : TokenNode) (ys : List TokenNode) → IsTokenList nodes → node_of y.number nodes ≡ Some y → AllByRecursion (λ z. node_of z.number nodes ≡ Some z) ys
    → map (parted_at y.partner) ys ≡ without_partners (y.number ∷ []) ys
unfolding without_partners
all_parted nodes y [] l e h = refl
all_parted nodes y (z ∷ ys) l e h =
    ap₂ (λ x t. x ∷ t)
    (parted_same y.number y.partner z
    (λ f. sym (ap partner_in e) ∙ l.mutual_partners z.number y.number (ap partner_in h.0 ∙ f))
    (λ f. sym (ap partner_in h.0) ∙ l.mutual_partners y.number z.number (ap partner_in e ∙ f)))
    (all_parted nodes y ys l e h.1)

-- what is left when a node is taken out, and its partner is cleared
pub parted_erased : (a b : List TokenNode) (y : TokenNode) → IsTokenList (a ++ y ∷ b) → map (parted_at y.partner) (a ++ b) ≡ with_live_partners (a ++ b)
parted_erased a b y l =
    let nodes = a ++ y ∷ b in
    all_parted nodes y (a ++ b) l (node_at a y b l.distinct) (all_apart (λ z. node_of z.number nodes ≡ Some z) a y b (each_node [] nodes l))
    ∙ sym (settled_parted a (y ∷ []) b [] l (fresh_none nodes))

pub erased_list : (a b : List TokenNode) (y : TokenNode) → IsTokenList (a ++ y ∷ b) → IsTokenList (with_live_partners (a ++ b))
erased_list a b y l = settled_list (a ++ y ∷ b) (a ++ b) l (partners_kept a (y ∷ []) b [] l.distinct (fresh_none (a ++ y ∷ b)))
