-- What holds of each linked list, over one node more or less.
use Rattle.std.proofs.Common.{◌≡◌, ℕ, zero, suc, ◌+◌, ◌-◌, ◌≤◌, ◌<◌, arith, List, [], ◌∷◌, ◌++◌, Option, Some, None, IfSome, IsTrue, Bool, true, false, ◌||◌, ⊎_elim, refl, sym, ap, ap₂, ◌∙◌, subst, cond, map, length, length-append, ◌==◌, get_or}
use Rattle.std.specs.List.{IsDistinct, list_any, slice_get}
use Rattle.std.specs.Option.{option_map}
use Rattle.std.proofs.lemmas.Bool.{both_ways, cases_Bool, eq-eqb, eqb-true, false_from_ne_true, or_left, or_right}
use Rattle.std.proofs.lemmas.List.{length-map}
use Rattle.std.proofs.lemmas.Option.{slice_get_within}
use Rattle.cx_tokens.specs.declared.slots.Slot.{Slot}
use Rattle.cx_tokens.specs.declared.token.Token.{Token}
use Rattle.cx_tokens.specs.Nodes.{IsTokenList, TokenNode, erased, first_of, inserted, is_live, last_of, nodes_after, nodes_before, nodes_to, partner_in, partner_of, token_of, with_live_partners}
use Rattle.cx_tokens.specs.Shapes.Links.{FreeLinked, IsAdded, IsLinks, IsPut, IsWithin, Linked, changed, changed_at, first_free, first_or, first_set, free_slot, last_or, links_of, next_link, parted_at, put_between, released, slot_of, taken_between, walk, with_mate}
use Rattle.cx_tokens.proofs.NodeLaws.{IsNumbered, found, live_left, live_right, partner_live}
use Rattle.cx_tokens.proofs.PartLaws.{kept_numbered, fresh_none}
use Rattle.cx_tokens.proofs.PlaceLaws.{first_live, last_live, whole_up}
use Rattle.cx_tokens.proofs.LinkLaws.{free_look, changed_other, changed_same, free_not_live, last_live_or, length_at, linked_look, linked_parts, live_not_free, read_is, walk_linked}
use Rattle.cx_tokens.proofs.LinkEdits.{distinct_cons, distinct_head, distinct_tail, erased_list, part_linked_at, parted_erased, put_free, put_length, put_linked, put_list, take_free, take_length, take_linked}

pub first_or_of : (b : List TokenNode) → first_or b None ≡ first_of b
first_or_of [] = refl
first_or_of (y ∷ b) = refl

pub last_or_of : (a : List TokenNode) → last_or a None ≡ last_of a
last_or_of [] = refl
last_or_of (y ∷ []) = refl
last_or_of (y ∷ z ∷ a) = last_or_of (z ∷ a)

last_end : (a : List TokenNode) (y : TokenNode) (p : Option ℕ) → last_or (a ++ y ∷ []) p ≡ Some y.number
last_end [] y p = refl
last_end (x ∷ a) y p = last_end a y (Some x.number)

pub view_nodes : (s : List Slot) (first : Option ℕ) (len : ℕ) (free : Option ℕ) (spare : ℕ) (h : IsLinks s first len free spare) → walk len first s ≡ h.nodes
view_nodes s first len free spare h = ap₂ (λ k o. walk k o s) h.len_is h.first_is ∙ walk_linked s None h.nodes h.linked

-- ---- the slot of a node

pub slot_there : (n : ℕ) (s : List Slot) (nodes : List TokenNode) (l : is_live n nodes ≡ true) → Linked s None nodes None
    → slice_get s n ≡ Some (slot_of (found n nodes l).node (last_or (nodes_before n nodes) None) (first_or (nodes_after n nodes) None))
slot_there n s nodes l h =
    let f = found n nodes l in
    let parts = linked_parts s None (nodes_before n nodes) (f.node ∷ nodes_after n nodes) None (subst (λ t. Linked s None t None) f.whole h) in
    subst (λ m. slice_get s m ≡ Some (slot_of f.node (last_or (nodes_before n nodes) None) (first_or (nodes_after n nodes) None))) f.number parts.1.0

pub live_within : (n : ℕ) (s : List Slot) (nodes : List TokenNode) → is_live n nodes ≡ true → Linked s None nodes None → n < length s
live_within n s nodes l h = let r = linked_look n s None nodes None h l in slice_get_within s n r.0 r.1

pub last_within : (s : List Slot) (a nodes : List TokenNode) → ((n : ℕ) → is_live n a ≡ true → is_live n nodes ≡ true) → Linked s None nodes None → IsWithin s (last_or a None)
last_within s [] nodes f h = tt
last_within s (y ∷ a) nodes f h =
    let l = last_live_or a y.number in
    subst (IsWithin s) (sym l.1) (live_within l.0 s nodes (f l.0 (flip (is_live l.0 a) (y.number == l.0) l.2)) h)
  where
    flip : (a b : Bool) → (a || b) ≡ true → (b || a) ≡ true
    flip true true h = refl
    flip true false h = refl
    flip false true h = refl
    flip false false h = h

pub first_within : (s : List Slot) (b nodes : List TokenNode) → ((n : ℕ) → is_live n b ≡ true → is_live n nodes ≡ true) → Linked s None nodes None → IsWithin s (first_or b None)
first_within s [] nodes f h = tt
first_within s (y ∷ b) nodes f h = live_within y.number s nodes (f y.number (or_left _ _ (eq-eqb y.number y.number refl))) h

-- ---- a node more

pub record HasFree (s : List Slot) (free : Option ℕ) (frees : List ℕ) (f : ℕ) : Type 0 where
  pub others : List ℕ
  pub are : frees ≡ f ∷ others

pub has_free : (s : List Slot) (free : Option ℕ) (frees : List ℕ) (f : ℕ) → free ≡ first_free frees → free ≡ Some f → HasFree s free frees f
has_free s free [] f e k = absurd cc
has_free s free (n ∷ ns) f e k = record { others = ns; are = ap (λ m. m ∷ ns) (same (sym e ∙ k)) }
  where
    same : {a b : ℕ} → Some a ≡ Some b → a ≡ b
    same h = cc

first_put : (a b : List TokenNode) (x : TokenNode) (first : Option ℕ) → first ≡ first_of (a ++ b) → first_set (last_or a None) (Some x.number) first ≡ first_of (a ++ x ∷ b)
unfolding first_set
first_put [] b x first e = refl
first_put (y ∷ a) b x first e = let l = last_live_or a y.number in ap (λ o. first_set o (Some x.number) first) l.1 ∙ e

put_at : (s : List Slot) (first : Option ℕ) (len : ℕ) (free : Option ℕ) (spare : ℕ) (h : IsLinks s first len free spare) (a b : List TokenNode) (x : TokenNode) → h.nodes ≡ a ++ b → x.partner ≡ None
    → free ≡ Some x.number → IsPut (put_between (last_or a None) x (first_or b None) s) (first_set (last_or a None) (Some x.number) first) (len + 1) (links_of (slice_get s x.number)) (spare - 1) (a ++ x ∷ b)
put_at s first len free spare h a b x e none k =
    let o = has_free s free h.frees x.number h.free_is k in
    let linked : Linked s None (a ++ b) None = subst (λ t. Linked s None t None) e h.linked in
    let frees : FreeLinked s (x.number ∷ o.others) = subst (FreeLinked s) o.are h.free_linked in
    let distinct = subst (λ t. IsDistinct (λ a b. a == b) t) o.are h.distinct in
    let list : IsTokenList (a ++ b) = subst IsTokenList e h.is_list in
    let dead : is_live x.number (a ++ b) ≡ false = free_not_live x.number s None (a ++ b) None (x.number ∷ o.others) linked frees (or_left _ _ (eq-eqb x.number x.number refl)) in
    let many = length-append a (x ∷ b) in
    let were = h.len_is ∙ ap length e ∙ length-append a b in
    let left = h.spare_is ∙ ap length o.are in
    let long = put_length (last_or a None) x (first_or b None) s in
    let all = h.all in
    let few = h.few in
    record {
      links = record {
        nodes = a ++ x ∷ b;
        frees = o.others;
        linked = put_linked s a b x (free_slot (first_free o.others)) list.distinct dead frees.0 linked;
        first_is = first_put a b x first (h.first_is ∙ ap first_of e);
        len_is = omega (arith, many, were);
        is_list = put_list a b x none dead list;
        free_linked = put_free s a b x o.others linked frees.1 (distinct_head x.number o.others distinct);
        free_is = ap links_of frees.0;
        spare_is = omega (arith, left);
        distinct = distinct_tail x.number o.others distinct;
        all = omega (arith, left, long, all);
        few = omega (arith, long, few);
      };
      nodes_are = refl;
    }

pub put_links : (s : List Slot) (first : Option ℕ) (len : ℕ) (free : Option ℕ) (spare : ℕ) (h : IsLinks s first len free spare) (at : Option ℕ) (x : TokenNode) → x.partner ≡ None → free ≡ Some x.number
    → IfSome at (λ n. IsTrue (is_live n h.nodes))
    → IsPut (put_between at x (next_link at first s) s) (first_set at (Some x.number) first) (len + 1) (links_of (slice_get s x.number)) (spare - 1) (inserted at x h.nodes)
unfolding next_link
put_links s first len free spare h None x none k l =
    subst (λ q. IsPut (put_between None x q s) (first_set None (Some x.number) first) (len + 1) (links_of (slice_get s x.number)) (spare - 1) (x ∷ h.nodes))
    (first_or_of h.nodes ∙ sym h.first_is) (put_at s first len free spare h [] h.nodes x refl none k)
put_links s first len free spare h (Some n) x none k l =
    let f = found n h.nodes l in
    let a = nodes_to n h.nodes in
    let b = nodes_after n h.nodes in
    let last : last_or a None ≡ Some n = ap (λ t. last_or t None) f.up_there ∙ last_end (nodes_before n h.nodes) f.node None ∙ ap Some f.number in
    let next : first_or b None ≡ links_of (slice_get s n) = sym (ap links_of (slot_there n s h.nodes l h.linked)) in
    subst (λ q. IsPut (put_between (Some n) x q s) (first_set (Some n) (Some x.number) first) (len + 1) (links_of (slice_get s x.number)) (spare - 1) (a ++ x ∷ b)) next
    (subst (λ p. IsPut (put_between p x (first_or b None) s) (first_set p (Some x.number) first) (len + 1) (links_of (slice_get s x.number)) (spare - 1) (a ++ x ∷ b)) last
    (put_at s first len free spare h a b x (whole_up n h.nodes l) none k))

pub put_fresh : (s : List Slot) (first : Option ℕ) (len : ℕ) (free : Option ℕ) (spare : ℕ) (h : IsLinks s first len free spare) (f : ℕ) → free ≡ Some f → is_live f h.nodes ≡ false
put_fresh s first len free spare h f k =
    let o = has_free s free h.frees f h.free_is k in
    free_not_live f s None h.nodes None (f ∷ o.others) h.linked (subst (FreeLinked s) o.are h.free_linked) (or_left _ _ (eq-eqb f f refl))

-- ---- a node less

both_numbered : (a b : List TokenNode) (y : TokenNode) → IsTokenList (a ++ y ∷ b) → IsNumbered (a ++ b)
both_numbered a b y l = kept_numbered a (y ∷ []) b [] l.distinct (fresh_none (a ++ y ∷ b))

-- a free slot has no partner to clear
free_mate : (m : ℕ) (s : List Slot) (ns : List ℕ) → FreeLinked s ns → FreeLinked (changed m (with_mate None) s) ns
free_mate m s [] h = tt
free_mate m s (n ∷ ns) h = (
  ⊎_elim
      (λ (e : (n == m) ≡ true). subst (λ k. slice_get (changed k (with_mate None) s) n ≡ Some (free_slot (first_free ns))) (eqb-true n m e) (changed_same n (with_mate None) s (free_slot (first_free ns)) h.0))
      (λ (e : (n == m) ≡ false). changed_other m n (with_mate None) s (λ k. both_ways (n == m) e (eq-eqb n m k)) ∙ h.0)
      (cases_Bool (n == m)),
  free_mate m s ns h.1,
)

free_mate_at : (o : Option ℕ) (s : List Slot) (ns : List ℕ) → FreeLinked s ns → FreeLinked (changed_at o (with_mate None) s) ns
unfolding changed_at
free_mate_at None s ns h = h
free_mate_at (Some m) s ns h = free_mate m s ns h

first_taken : (a b : List TokenNode) (y : TokenNode) (first : Option ℕ) → first ≡ first_of (a ++ y ∷ b) → first_set (last_or a None) (first_or b None) first ≡ first_of (a ++ b)
unfolding first_set
first_taken [] b y first e = first_or_of b
first_taken (x ∷ a) b y first e = let l = last_live_or a x.number in ap (λ o. first_set o (first_or b None) first) l.1 ∙ e

first_parted : (o : Option ℕ) (ys : List TokenNode) → first_of (map (parted_at o) ys) ≡ first_of ys
unfolding parted_at
first_parted None [] = refl
first_parted (Some m) [] = refl
first_parted None (y ∷ ys) = refl
first_parted (Some m) (y ∷ ys) = number_same m y
  where
    number_same : (m : ℕ) (y : TokenNode) → Some (parted_at (Some m) y).number ≡ Some y.number
    number_same m y = elim (y.number == m) as (λ b. Some (cond b (record { number = y.number; token = y.token; partner = None }) y).number ≡ Some y.number) [ true ↦ refl | false ↦ refl ]

take_at : (s : List Slot) (first : Option ℕ) (len : ℕ) (free : Option ℕ) (spare : ℕ) (h : IsLinks s first len free spare) (a b : List TokenNode) (y : TokenNode) → h.nodes ≡ a ++ y ∷ b
    → IsPut (released y.number (slot_of y (last_or a None) (first_or b None)) free s) (first_set (last_or a None) (first_or b None) first) (len - 1) (Some y.number) (spare + 1) (with_live_partners (a ++ b))
unfolding released
take_at s first len free spare h a b y e =
    let p = last_or a None in
    let q = first_or b None in
    let n = y.number in
    let nodes = a ++ y ∷ b in
    let linked : Linked s None nodes None = subst (λ t. Linked s None t None) e h.linked in
    let list : IsTokenList nodes = subst IsTokenList e h.is_list in
    let s3 = taken_between p n q (first_free h.frees) s in
    let taken = take_linked s a b y (first_free h.frees) list.distinct linked in
    let is_list = erased_list a b y list in
    let n_live : is_live n nodes ≡ true = live_right n a (y ∷ b) (or_left _ _ (eq-eqb n n refl)) in
    let parted = parted_erased a b y list in
    let busy = live_not_free n s None nodes None h.frees linked h.free_linked n_live in
    let many = length-append a (y ∷ b) in
    let now = length-append a b in
    let were = h.len_is ∙ ap length e in
    let same : length (with_live_partners (a ++ b)) ≡ length (a ++ b) = sym (ap length parted) ∙ length-map (a ++ b) (parted_at y.partner) in
    let spare_is = h.spare_is in
    let all = h.all in
    let few = h.few in
    let long : length (changed_at y.partner (with_mate None) s3) ≡ length s = length_at y.partner (with_mate None) s3 ∙ take_length p n q (first_free h.frees) s in
    subst (λ o. IsPut (changed_at y.partner (with_mate None) (taken_between p n q o s)) (first_set p q first) (len - 1) (Some n) (spare + 1) (with_live_partners (a ++ b))) (sym h.free_is)
    (record {
      links = record {
        nodes = with_live_partners (a ++ b);
        frees = n ∷ h.frees;
        linked = subst (λ t. Linked (changed_at y.partner (with_mate None) s3) None t None) parted (part_linked_at y.partner s3 None (a ++ b) None (both_numbered a b y list) taken);
        first_is = first_taken a b y first (h.first_is ∙ ap first_of e) ∙ sym (first_parted y.partner (a ++ b)) ∙ ap first_of parted;
        len_is = omega (arith, many, now, were, same);
        is_list = is_list;
        free_linked = free_mate_at y.partner s3 (n ∷ h.frees) (take_free s a b y h.frees list.distinct linked h.free_linked);
        free_is = refl;
        spare_is = omega (arith, spare_is);
        distinct = distinct_cons n h.frees busy h.distinct;
        all = omega (arith, many, were, all, long);
        few = omega (arith, long, few);
      };
      nodes_are = refl;
    })

pub take_links : (s : List Slot) (first : Option ℕ) (len : ℕ) (free : Option ℕ) (spare : ℕ) (h : IsLinks s first len free spare) (n : ℕ) (x : Slot) → is_live n h.nodes ≡ true → slice_get s n ≡ Some x
    → IsPut (released n x free s) (first_set x.previous x.next first) (len - 1) (Some n) (spare + 1) (erased n h.nodes)
take_links s first len free spare h n x l e =
    let f = found n h.nodes l in
    let a = nodes_before n h.nodes in
    let b = nodes_after n h.nodes in
    let is : slot_of f.node (last_or a None) (first_or b None) ≡ x = inner (sym (slot_there n s h.nodes l h.linked) ∙ e) in
    subst (λ y. IsPut (released n y free s) (first_set y.previous y.next first) (len - 1) (Some n) (spare + 1) (erased n h.nodes)) is
    (subst (λ m. IsPut (released m (slot_of f.node (last_or a None) (first_or b None)) free s) (first_set (last_or a None) (first_or b None) first) (len - 1) (Some m) (spare + 1) (erased n h.nodes)) f.number
    (take_at s first len free spare h a b f.node f.whole))
  where
    inner : {a b : Slot} → Some a ≡ Some b → a ≡ b
    inner h = cc

-- ---- a free slot more

look_left : (s t : List Slot) (n : ℕ) (x : Slot) → slice_get s n ≡ Some x → slice_get (s ++ t) n ≡ Some x
look_left [] t n x h = absurd cc
look_left (y ∷ s) t zero x h = h
look_left (y ∷ s) t (suc n) x h = look_left s t n x h

look_end : (s : List Slot) (x : Slot) → slice_get (s ++ x ∷ []) (length s) ≡ Some x
look_end [] x = refl
look_end (y ∷ s) x = look_end s x

linked_more : (s t : List Slot) (p : Option ℕ) (ys : List TokenNode) (q : Option ℕ) → Linked s p ys q → Linked (s ++ t) p ys q
linked_more s t p [] q h = tt
linked_more s t p (y ∷ ys) q h = (look_left s t y.number (slot_of y p (first_or ys q)) h.0, linked_more s t (Some y.number) ys q h.1)

free_more : (s t : List Slot) (ns : List ℕ) → FreeLinked s ns → FreeLinked (s ++ t) ns
free_more s t [] h = tt
free_more s t (n ∷ ns) h = (look_left s t n (free_slot (first_free ns)) h.0, free_more s t ns h.1)

pub add_links : (s : List Slot) (first : Option ℕ) (len : ℕ) (free : Option ℕ) (spare : ℕ) (h : IsLinks s first len free spare) → length s < 4294967295
    → IsPut (s ++ free_slot free ∷ []) first len (Some (length s)) (spare + 1) h.nodes
add_links s first len free spare h few =
    let n = length s in
    let t = free_slot free ∷ [] in
    let new : list_any (λ k. k == n) h.frees ≡ false = false_from_ne_true (list_any (λ k. k == n) h.frees)
    (λ e. let r = free_look n s h.frees h.free_linked e in let w = slice_get_within s n r.0 r.1 in absurd (omega arith)) in
    let long = length-append s t in
    let all = h.all in
    let spare_is = h.spare_is in
    record {
      links = record {
        nodes = h.nodes;
        frees = n ∷ h.frees;
        linked = linked_more s t None h.nodes None h.linked;
        first_is = h.first_is;
        len_is = h.len_is;
        is_list = h.is_list;
        free_linked = (look_end s (free_slot free) ∙ ap (λ o. Some (free_slot o)) h.free_is, free_more s t h.frees h.free_linked);
        free_is = refl;
        spare_is = omega (arith, spare_is);
        distinct = distinct_cons n h.frees new h.distinct;
        all = omega (arith, long, all);
        few = omega (arith, long, few);
      };
      nodes_are = refl;
    }

pub added_none : (s : List Slot) (free : Option ℕ) → IsAdded s free s free 0
unfolding IsAdded
added_none s free = λ first len spare h. let e : spare ≡ spare + 0 = omega arith in subst (λ k. IsPut s first len free k h.nodes) e (record { links = h; nodes_are = refl })

pub added_one : (s t : List Slot) (free last : Option ℕ) (more : ℕ) → length t < 4294967295 → IsAdded s free t last more → IsAdded s free (t ++ free_slot last ∷ []) (Some (length t)) (more + 1)
unfolding IsAdded
added_one s t free last more few a = λ first len spare h.
    let p = a first len spare h in
    let q = add_links t first len last (spare + more) p.links few in
    let e : (spare + more) + 1 ≡ spare + (more + 1) = omega arith in
    subst (λ k. IsPut (t ++ free_slot last ∷ []) first len (Some (length t)) k h.nodes) e (record { links = q.links; nodes_are = q.nodes_are ∙ p.nodes_are })

-- ---- what a value tells

pub has_spare : (s : List Slot) (first : Option ℕ) (len : ℕ) (free : Option ℕ) (spare : ℕ) → IsLinks s first len free spare → 0 < spare → (f : ℕ) × (free ≡ Some f) × (f < length s)
has_spare s first len free spare h l = some h.frees h.free_is h.free_linked (let e = h.spare_is in omega arith)
  where
    some : (ns : List ℕ) → free ≡ first_free ns → FreeLinked s ns → 0 < length ns → (f : ℕ) × (free ≡ Some f) × (f < length s)
    some [] e k l = absurd (omega arith)
    some (n ∷ ns) e k l = (n, e, slice_get_within s n (free_slot (first_free ns)) k.0)

pub next_within : (s : List Slot) (first : Option ℕ) (len : ℕ) (free : Option ℕ) (spare : ℕ) (h : IsLinks s first len free spare) (at : Option ℕ) → IfSome at (λ n. IsTrue (is_live n h.nodes)) → IsWithin s (next_link at first s)
unfolding next_link
next_within s first len free spare h None l = subst (IsWithin s) (first_or_of h.nodes ∙ sym h.first_is) (first_within s h.nodes h.nodes (λ n k. k) h.linked)
next_within s first len free spare h (Some n) l =
    let f = found n h.nodes l in
    subst (IsWithin s) (sym (ap links_of (slot_there n s h.nodes l h.linked)))
    (first_within s (nodes_after n h.nodes) h.nodes (λ m k. subst (λ t. is_live m t ≡ true) (sym f.whole) (live_right m (nodes_before n h.nodes) (f.node ∷ nodes_after n h.nodes) (or_right _ _ k))) h.linked)

pub at_within : (s : List Slot) (nodes : List TokenNode) (at : Option ℕ) → Linked s None nodes None → IfSome at (λ n. IsTrue (is_live n nodes)) → IsWithin s at
at_within s nodes None h l = tt
at_within s nodes (Some n) h l = live_within n s nodes l h

-- the links of a node's slot lead to slots
pub slot_within : (s : List Slot) (first : Option ℕ) (len : ℕ) (free : Option ℕ) (spare : ℕ) (h : IsLinks s first len free spare) (n : ℕ) (x : Slot) → is_live n h.nodes ≡ true → slice_get s n ≡ Some x
    → IsWithin s x.previous × IsWithin s x.next × IsWithin s x.partner
slot_within s first len free spare h n x l e =
    let f = found n h.nodes l in
    let a = nodes_before n h.nodes in
    let b = nodes_after n h.nodes in
    let is : slot_of f.node (last_or a None) (first_or b None) ≡ x = inner (sym (slot_there n s h.nodes l h.linked) ∙ e) in
    subst (λ y. IsWithin s y.previous × IsWithin s y.next × IsWithin s y.partner) is (
      last_within s a h.nodes (λ m k. subst (λ t. is_live m t ≡ true) (sym f.whole) (live_left m a (f.node ∷ b) k)) h.linked,
      first_within s b h.nodes (λ m k. subst (λ t. is_live m t ≡ true) (sym f.whole) (live_right m a (f.node ∷ b) (or_right _ _ k))) h.linked,
      mate_within f.node.partner (λ m k. partner_live m n h.nodes (h.is_list.mutual_partners n m (ap partner_in f.is_node ∙ k))),
    )
  where
    inner : {a b : Slot} → Some a ≡ Some b → a ≡ b
    inner h = cc

    mate_within : (o : Option ℕ) → ((m : ℕ) → o ≡ Some m → is_live m h.nodes ≡ true) → IsWithin s o
    mate_within None f = tt
    mate_within (Some m) f = live_within m s h.nodes (f m refl) h.linked

pub no_links : IsLinks [] None 0 None 0
unfolding IsDistinct
no_links = record {
  nodes = [];
  frees = [];
  linked = tt;
  first_is = refl;
  len_is = refl;
  is_list = record { distinct = tt; mutual_partners = λ n m h. absurd cc };
  free_linked = tt;
  free_is = refl;
  spare_is = refl;
  distinct = tt;
  all = refl;
  few = omega arith;
}

pub added_links : (s t : List Slot) (free last : Option ℕ) (more : ℕ) → IsAdded s free t last more → (first : Option ℕ) (len spare : ℕ) (h : IsLinks s first len free spare) → IsPut t first len last (spare + more) h.nodes
unfolding IsAdded
added_links s t free last more a = a

pub some_same : {a b : ℕ} → Some a ≡ Some b → a ≡ b
some_same h = cc

-- ---- what the code reads and writes

pub put_moved : (s : List Slot) (first : Option ℕ) (len : ℕ) (free : Option ℕ) (spare : ℕ) (h : IsLinks s first len free spare) (at : Option ℕ) (x : TokenNode) → x.partner ≡ None → free ≡ Some x.number
    → IfSome at (λ n. IsTrue (is_live n h.nodes)) → (t : List Slot) (previous next link : Option ℕ) (y : Slot) → previous ≡ at → next ≡ next_link previous first s → t ≡ put_between previous x next s
    → link ≡ first_set previous (Some x.number) first → slice_get s x.number ≡ Some y → IsPut t link (len + 1) y.next (spare - 1) (inserted at x h.nodes)
put_moved s first len free spare h at x none k l t previous next link y ep en et el ey =
    let e1 : t ≡ put_between at x (next_link at first s) s = et ∙ ap₂ (λ p q. put_between p x q s) ep (en ∙ ap (λ p. next_link p first s) ep) in
    let e2 : link ≡ first_set at (Some x.number) first = el ∙ ap (λ p. first_set p (Some x.number) first) ep in
    let e3 : y.next ≡ links_of (slice_get s x.number) = sym (ap links_of ey) in
    subst (λ s. IsPut s link (len + 1) y.next (spare - 1) (inserted at x h.nodes)) (sym e1)
    (subst (λ f. IsPut (put_between at x (next_link at first s) s) f (len + 1) y.next (spare - 1) (inserted at x h.nodes)) (sym e2)
    (subst (λ o. IsPut (put_between at x (next_link at first s) s) (first_set at (Some x.number) first) (len + 1) o (spare - 1) (inserted at x h.nodes)) (sym e3)
    (put_links s first len free spare h at x none k l)))

pub take_moved : (s : List Slot) (first : Option ℕ) (len : ℕ) (free : Option ℕ) (spare : ℕ) (h : IsLinks s first len free spare) (n m : ℕ) (x : Slot) → is_live n h.nodes ≡ true → m ≡ n → slice_get s m ≡ Some x
    → (t : List Slot) (link : Option ℕ) → t ≡ released m x free s → link ≡ first_set x.previous x.next first → IsPut t link (len - 1) (Some m) (spare + 1) (erased n h.nodes)
take_moved s first len free spare h n m x l e k t link et el =
    let e1 : t ≡ released n x free s = et ∙ ap (λ i. released i x free s) e in
    subst (λ i. IsPut t link (len - 1) (Some i) (spare + 1) (erased n h.nodes)) (sym e)
    (subst (λ s. IsPut s link (len - 1) (Some n) (spare + 1) (erased n h.nodes)) (sym e1)
    (subst (λ f. IsPut (released n x free s) f (len - 1) (Some n) (spare + 1) (erased n h.nodes)) (sym el)
    (take_links s first len free spare h n x l (subst (λ i. slice_get s i ≡ Some x) e k))))

pub record Tells (n : ℕ) (nodes : List TokenNode) (x : Slot) : Type 0 where
  pub token : token_of n nodes ≡ x.token
  pub partner : partner_of n nodes ≡ x.partner
  pub next : first_of (nodes_after n nodes) ≡ x.next
  pub previous : last_of (nodes_before n nodes) ≡ x.previous
  pub some_token : (t : Token) × (x.token ≡ Some t)

pub slot_tells : (n : ℕ) (s : List Slot) (nodes : List TokenNode) (x : Slot) → is_live n nodes ≡ true → Linked s None nodes None → slice_get s n ≡ Some x → Tells n nodes x
slot_tells n s nodes x l h e =
    let f = found n nodes l in
    let a = nodes_before n nodes in
    let b = nodes_after n nodes in
    let is : slot_of f.node (last_or a None) (first_or b None) ≡ x = inner (sym (slot_there n s nodes l h) ∙ e) in
    subst (λ y. Tells n nodes y) is (record {
      token = ap (option_map (λ (y : TokenNode). y.token)) f.is_node;
      partner = ap partner_in f.is_node;
      next = sym (first_or_of b);
      previous = sym (last_or_of a);
      some_token = (f.node.token, refl);
    })
  where
    inner : {a b : Slot} → Some a ≡ Some b → a ≡ b
    inner h = cc

pub live_long : (n : ℕ) (xs : List TokenNode) → is_live n xs ≡ true → 1 ≤ length xs
live_long n [] l = absurd cc
live_long n (x ∷ xs) l = omega arith

-- ---- reading by index

pub index_within : (s : List Slot) (long : ℕ) (nodes : List TokenNode) (n m : ℕ) → is_live n nodes ≡ true → Linked s None nodes None → m ≡ n → long ≡ length s → m < long
index_within s long nodes n m l h e k = let w = live_within n s nodes l h in omega arith

pub read_there : (s : List Slot) (nodes : List TokenNode) (n m : ℕ) (x : Slot) → is_live n nodes ≡ true → Linked s None nodes None → m ≡ n → x ≡ get_or s m x → Tells n nodes x
read_there s nodes n m x l h e r =
    slot_tells n s nodes x l h (read_is s n x (live_within n s nodes l h) (r ∙ ap (λ k. get_or s k x) e))

live_all : (o : Option ℕ) (part all : List TokenNode) → ((n : ℕ) → is_live n part ≡ true → is_live n all ≡ true) → IfSome o (λ n. IsTrue (is_live n part)) → IfSome o (λ n. IsTrue (is_live n all))
live_all None part all f h = tt
live_all (Some n) part all f h = f n h

pub next_lives : (n : ℕ) (nodes : List TokenNode) (o : Option ℕ) → is_live n nodes ≡ true → o ≡ first_of (nodes_after n nodes) → IfSome o (λ m. IsTrue (is_live m nodes))
next_lives n nodes o l e =
    let f = found n nodes l in
    let b = nodes_after n nodes in
    live_all o b nodes (λ m k. subst (λ t. is_live m t ≡ true) (sym f.whole) (live_right m (nodes_before n nodes) (f.node ∷ b) (or_right _ _ k)))
    (subst (λ o. IfSome o (λ m. IsTrue (is_live m b))) (sym e) (first_live b))

pub last_lives : (n : ℕ) (nodes : List TokenNode) (o : Option ℕ) → is_live n nodes ≡ true → o ≡ last_of (nodes_before n nodes) → IfSome o (λ m. IsTrue (is_live m nodes))
last_lives n nodes o l e =
    let f = found n nodes l in
    let a = nodes_before n nodes in
    live_all o a nodes (λ m k. subst (λ t. is_live m t ≡ true) (sym f.whole) (live_left m a (f.node ∷ nodes_after n nodes) k))
    (subst (λ o. IfSome o (λ m. IsTrue (is_live m a))) (sym e) (last_live a))

pub partner_lives : (n : ℕ) (nodes : List TokenNode) (o : Option ℕ) → IsTokenList nodes → o ≡ partner_of n nodes → IfSome o (λ m. IsTrue (is_live m nodes)) × IfSome o (λ m. partner_of m nodes ≡ Some n)
partner_lives n nodes None l e = (tt, tt)
partner_lives n nodes (Some m) l e =
    let q = l.mutual_partners n m (sym e) in (partner_live m n nodes q, q)

pub inserted_live : (at : Option ℕ) (x : TokenNode) (xs : List TokenNode) → is_live x.number (inserted at x xs) ≡ true
inserted_live None x xs = or_left _ _ (eq-eqb x.number x.number refl)
inserted_live (Some n) x xs = live_right x.number (nodes_to n xs) (x ∷ nodes_after n xs) (or_left _ _ (eq-eqb x.number x.number refl))
