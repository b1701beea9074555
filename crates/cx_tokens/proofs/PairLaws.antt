-- Writing the partners of brackets, one token after another.
use Rattle.std.proofs.Common.{◌≡◌, ℕ, ◌+◌, ◌<◌, ◌≤◌, arith, List, [], ◌∷◌, ◌++◌, Option, Some, None, true, false, refl, sym, ap, ◌∙◌, subst, append_assoc, append-nil, map, length, length-append, reverse, ⊎_elim, ◌==◌}
use Rattle.std.specs.List.{IsDistinct, slice_get}
use Rattle.std.proofs.lemmas.Bool.{cond-true, cond-false, cases_Bool, eq-eqb, or_left}
use Rattle.std.proofs.lemmas.List.{length-map}
use Rattle.cx_tokens.specs.declared.slots.Slot.{Slot}
use Rattle.cx_tokens.specs.declared.token.Token.{Token}
use Rattle.cx_tokens.specs.Nodes.{TokenNode, first_of, tokens}
use Rattle.cx_tokens.specs.Brackets.{IsNested, IsPaired, closes, fits, nothing, opens, other, pair}
use Rattle.cx_tokens.specs.Shapes.Links.{FreeLinked, Linked, changed, first_or, last_or, slot_of, walk, with_mate}
use Rattle.cx_tokens.specs.Shapes.Pairing.{AreOpen, Innermost, IsChain, IsHalfPaired, IsMated, IsPairedTo, IsPairing, IsTokenAt, unpaired_place, number_and_token, place_first, with_partner}
use Rattle.cx_tokens.proofs.BalanceLaws.{named_parts}
use Rattle.cx_tokens.proofs.BracketLaws.{fault_close, fault_end, fault_open, fault_other, nested_no_fault}
use Rattle.cx_tokens.proofs.LinkLaws.{changed_length, free_frame, linked_parts, live_not_free}
use Rattle.cx_tokens.proofs.LinkEdits.{change_linked}
use Rattle.cx_tokens.proofs.LinkSteps.{first_or_of}
use Rattle.cx_tokens.proofs.NodeLaws.{IsNumbered, live_right}
use Rattle.cx_tokens.proofs.OpenLaws.{HasSlot, bracket_slot, last_first, no_stack, open_append, open_push, slot_at, slot_here, slot_in, token_is, walk_more}

pub paired_append : {a b : List TokenNode} → IsPaired a → IsPaired b → IsPaired (a ++ b)
paired_append nothing k = k
paired_append (other o c p h) k = other o c p (paired_append h k)
paired_append {b = d} (pair a b inner rest e f p q h i) k =
    pair a b inner (rest ++ d) (ap (λ t. t ++ d) e ∙ ap (λ t. a ∷ t) (append_assoc inner (b ∷ rest) d)) f p q h (paired_append i k)

-- a closing bracket without fault
pub record Closing (left : List Token) (t : Token) (ts : List Token) : Type 0 where
  pub first : Token
  pub lefts : List Token
  pub is_left : left ≡ first ∷ lefts
  pub is_fit : fits first t ≡ true
  pub all_fit : unpaired_place lefts ts ≡ None

closing : (left : List Token) (t : Token) (ts : List Token) → closes t ≡ true → unpaired_place left (t ∷ ts) ≡ None → Closing left t ts
closing [] t ts c n = absurd (let a = fault_close [] t ts c in cc)
closing (a ∷ left) t ts c n =
    let e = sym (fault_close (a ∷ left) t ts c) ∙ n in
    ⊎_elim
    (λ (f : fits a t ≡ true). record { first = a; lefts = left; is_left = refl; is_fit = f; all_fit = sym (cond-true (fits a t) (unpaired_place left ts) (Some t.place) f) ∙ e })
    (λ (f : fits a t ≡ false). absurd (let g = cond-false (fits a t) (unpaired_place left ts) (Some t.place) f in cc))
    (cases_Bool (fits a t))

-- ---- one partner written

-- slots in which a node has another partner
pub record IsMateSet (old slots : List Slot) (a : List TokenNode) (y : TokenNode) (b : List TokenNode) (p : Option ℕ) : Type 0 where
  pub linked : Linked slots None (a ++ with_partner y p ∷ b) None
  pub frees : (ns : List ℕ) → FreeLinked old ns → FreeLinked slots ns
  pub long : length slots ≡ length old
  pub named : map number_and_token (a ++ with_partner y p ∷ b) ≡ map number_and_token (a ++ y ∷ b)

named_with : (a : List TokenNode) (y : TokenNode) (b : List TokenNode) (p : Option ℕ) → map number_and_token (a ++ with_partner y p ∷ b) ≡ map number_and_token (a ++ y ∷ b)
unfolding with_partner
named_with [] y b p = refl
named_with (x ∷ a) y b p = ap (λ t. number_and_token x ∷ t) (named_with a y b p)

mate_linked : (s : List Slot) (a : List TokenNode) (y : TokenNode) (b : List TokenNode) (p : Option ℕ) → IsNumbered (a ++ y ∷ b) → Linked s None (a ++ y ∷ b) None
    → Linked (changed y.number (with_mate p) s) None (a ++ with_partner y p ∷ b) None
unfolding with_partner
mate_linked s a y b p d k = change_linked s a y (with_partner y p) b (with_mate p) refl (λ o q. refl) d k

pub mate_set : (s t : List Slot) (a : List TokenNode) (y : TokenNode) (b : List TokenNode) (n : ℕ) (p : Option ℕ) → y.number ≡ n → IsNumbered (a ++ y ∷ b) → Linked s None (a ++ y ∷ b) None
    → t ≡ changed n (with_mate p) s → IsMateSet s t a y b p
mate_set s t a y b n p e d k w =
    let is : t ≡ changed y.number (with_mate p) s = w ∙ ap (λ m. changed m (with_mate p) s) (sym e) in
    record {
      linked = subst (λ u. Linked u None (a ++ with_partner y p ∷ b) None) (sym is) (mate_linked s a y b p d k);
      frees = λ ns f. subst (λ u. FreeLinked u ns) (sym is)
          (free_frame y.number (with_mate p) s ns (live_not_free y.number s None (a ++ y ∷ b) None ns k f (live_right y.number a (y ∷ b) (or_left _ _ (eq-eqb y.number y.number refl)))) f);
      long = ap length is ∙ changed_length y.number (with_mate p) s;
      named = named_with a y b p;
    }

pub same_numbered : (xs ys : List TokenNode) → map number_and_token xs ≡ map number_and_token ys → IsNumbered ys → IsNumbered xs
same_numbered xs ys e d = subst (IsDistinct (λ a b. a == b)) (sym (named_parts xs ys e).0) d

-- ---- one node more

pub here_slot : (slots : List Slot) (number : ℕ) (s : List ℕ) → (h : IsHalfPaired slots number s) → HasSlot slots number h.node
here_slot slots number s h = slot_here slots number h.front h.node h.rest h.number_is h.linked

pub half_open : (slots : List Slot) (n : ℕ) (t : Token) (s new : List ℕ) (h : IsHalfPaired slots n s) → IsTokenAt slots n t → opens t ≡ true → new ≡ s ++ n ∷ []
    → IsPairedTo slots slots new (h.front ++ h.node ∷ h.rest) h.rest
half_open slots n t s new h f o e =
    let x = h.node in
    let is = token_is slots n x t (here_slot slots n s h) f in
    let k : opens x.token ≡ true = sym (ap opens is) ∙ o in
    let q = append_assoc h.front (x ∷ []) h.rest in
    record {
      front = h.front ++ x ∷ [];
      left = x.token ∷ h.left;
      linked = subst (λ t. Linked slots None t None) (sym q) h.linked;
      are_open = subst (λ u. AreOpen IsPaired (h.front ++ x ∷ []) u (x.token ∷ h.left)) (ap (λ m. m ∷ reverse s) h.number_is ∙ sym (last_first s n) ∙ ap reverse (sym e)) (open_push IsPaired h.front x (reverse s) h.left h.are_open nothing k);
      all_fit = sym (fault_open h.left x.token (tokens h.rest) k) ∙ h.all_fit;
      named = ap (map number_and_token) q;
      frees = λ ns g. g;
      long = refl;
    }

pub half_other : (slots new : List Slot) (n : ℕ) (t : Token) (s : List ℕ) (h : IsHalfPaired slots n s) → IsTokenAt slots n t → opens t ≡ false → closes t ≡ false → new ≡ changed n (with_mate None) slots
    → IsPairedTo slots new s (h.front ++ h.node ∷ h.rest) h.rest
unfolding with_partner
half_other slots new n t s h f o c w =
    let x = h.node in
    let is = token_is slots n x t (here_slot slots n s h) f in
    let k : opens x.token ≡ false = sym (ap opens is) ∙ o in
    let l : closes x.token ≡ false = sym (ap closes is) ∙ c in
    let m = mate_set slots new h.front x h.rest n None h.number_is h.numbered h.linked w in
    let y = with_partner x None in
    let q = append_assoc h.front (y ∷ []) h.rest in
    record {
      front = h.front ++ y ∷ [];
      left = h.left;
      linked = subst (λ t. Linked new None t None) (sym q) m.linked;
      are_open = open_append IsPaired h.front (y ∷ []) (reverse s) h.left h.are_open (λ i p. paired_append p (other k l refl nothing));
      all_fit = sym (fault_other h.left x.token (tokens h.rest) k l) ∙ h.all_fit;
      named = ap (map number_and_token) q ∙ m.named;
      frees = m.frees;
      long = m.long;
    }

pub half_none : (slots : List Slot) (n : ℕ) (t : Token) (s : List ℕ) (h : IsHalfPaired slots n s) → IsTokenAt slots n t → closes t ≡ true → s ≡ [] → ⊥
half_none slots n t s h f c e =
    let is = token_is slots n h.node t (here_slot slots n s h) f in
    let k = closing h.left h.node.token (tokens h.rest) (sym (ap closes is) ∙ c) h.all_fit in
    let o = subst (λ u. AreOpen IsPaired h.front (reverse u) h.left) e h.are_open in
    let a = k.is_left in let b = o.1 in cc

half_bracket : (slots : List Slot) (n j : ℕ) (s old : List ℕ) → old ≡ s ++ j ∷ [] → (h : IsHalfPaired slots n old) → Innermost IsPaired h.front j h.left (λ front lefts. AreOpen IsPaired front (reverse s) lefts)
half_bracket slots n j s old e h = subst (λ t. AreOpen IsPaired h.front t h.left) (ap reverse e ∙ last_first s j) h.are_open

pub half_within : (slots : List Slot) (n j : ℕ) (s old : List ℕ) → old ≡ s ++ j ∷ [] → IsHalfPaired slots n old → j < length slots
half_within slots n j s old e h =
    let m = half_bracket slots n j s old e h in
    slot_in slots j m.bracket (bracket_slot slots h.front m.front m.inner (h.node ∷ h.rest) m.bracket j m.whole m.number_is h.linked)

pub half_close : (slots mid new : List Slot) (n j : ℕ) (t : Token) (s old : List ℕ) (h : IsHalfPaired slots n old) → IsTokenAt slots n t → closes t ≡ true → old ≡ s ++ j ∷ []
    → mid ≡ changed j (with_mate (Some n)) slots → new ≡ changed n (with_mate (Some j)) mid → IsPairedTo slots new s (h.front ++ h.node ∷ h.rest) h.rest
unfolding with_partner
half_close slots mid new n j t s old h f c e w v =
    let x = h.node in
    let m = half_bracket slots n j s old e h in
    let a = m.bracket in
    let is = token_is slots n x t (here_slot slots n old h) f in
    let k = closing h.left x.token (tokens h.rest) (sym (ap closes is) ∙ c) h.all_fit in
    let both : a.token ∷ m.lefts ≡ k.first ∷ k.lefts = sym m.is_left ∙ k.is_left in
    let head : a.token ≡ k.first = cc in
    let tail : m.lefts ≡ k.lefts = cc in
    let fit : fits a.token x.token ≡ true = ap (λ t. fits t x.token) head ∙ k.is_fit in
    let a2 = with_partner a (Some n) in
    let x2 = with_partner x (Some j) in
    let behind = m.inner ++ x ∷ h.rest in
    let whole : h.front ++ x ∷ h.rest ≡ m.front ++ a ∷ behind = ap (λ t. t ++ x ∷ h.rest) m.whole ∙ append_assoc m.front (a ∷ m.inner) (x ∷ h.rest) in
    let one = mate_set slots mid m.front a behind j (Some n) m.number_is (subst IsNumbered whole h.numbered) (subst (λ t. Linked slots None t None) whole h.linked) w in
    let again : m.front ++ a2 ∷ behind ≡ (m.front ++ a2 ∷ m.inner) ++ x ∷ h.rest = sym (append_assoc m.front (a2 ∷ m.inner) (x ∷ h.rest)) in
    let numbered = same_numbered (m.front ++ a2 ∷ behind) (m.front ++ a ∷ behind) one.named (subst IsNumbered whole h.numbered) in
    let two = mate_set mid new (m.front ++ a2 ∷ m.inner) x h.rest n (Some j) h.number_is (subst IsNumbered again numbered) (subst (λ t. Linked mid None t None) again one.linked) v in
    let ends : (m.front ++ a2 ∷ m.inner) ++ x2 ∷ h.rest ≡ (m.front ++ a2 ∷ (m.inner ++ x2 ∷ [])) ++ h.rest =
    append_assoc m.front (a2 ∷ m.inner) (x2 ∷ h.rest) ∙ ap (λ t. m.front ++ a2 ∷ t) (sym (append_assoc m.inner (x2 ∷ []) h.rest)) ∙ sym (append_assoc m.front (a2 ∷ (m.inner ++ x2 ∷ [])) h.rest) in
    record {
      front = m.front ++ a2 ∷ (m.inner ++ x2 ∷ []);
      left = m.lefts;
      linked = subst (λ t. Linked new None t None) ends two.linked;
      are_open = open_append IsPaired m.front (a2 ∷ (m.inner ++ x2 ∷ [])) (reverse s) m.lefts m.before_it
          (λ i p. paired_append p (pair a2 x2 m.inner [] refl fit (ap Some (sym h.number_is)) (ap Some (sym m.number_is)) m.inner_is nothing));
      all_fit = ap (λ t. unpaired_place t (tokens h.rest)) tail ∙ k.all_fit;
      named = ap (map number_and_token) (sym ends) ∙ two.named ∙ ap (map number_and_token) (sym again) ∙ one.named ∙ ap (map number_and_token) (sym whole);
      frees = λ ns g. two.frees ns (one.frees ns g);
      long = two.long ∙ one.long;
    }

-- ---- from one node to the next

pub pairing_start : (slots : List Slot) (first : Option ℕ) (s : List ℕ) (h : IsChain slots first) → s ≡ [] → IsNested (tokens h.nodes) → IsPairing slots slots first s h.nodes
pairing_start slots first s h e n = record {
  rest = h.nodes;
  at_is = h.first_is;
  paired = record {
    front = [];
    left = [];
    linked = h.linked;
    are_open = subst (λ t. AreOpen IsPaired [] (reverse t) []) (sym e) (nothing, refl);
    all_fit = nested_no_fault n;
    named = refl;
    frees = λ ns f. f;
    long = refl;
  };
  few = let l = ap length e in omega (arith, l);
}

-- what stands at a link
pub record IsStep (old slots : List Slot) (first at : Option ℕ) (n : ℕ) (s : List ℕ) (h : IsChain old first) (p : IsPairing old slots at s h.nodes) : Type 0 where
  pub node : TokenNode
  pub rest : List TokenNode
  pub is_rest : p.rest ≡ node ∷ rest
  pub number_is : node.number ≡ n

pub pairing_at : (old slots : List Slot) (first at : Option ℕ) (n : ℕ) (s : List ℕ) (h : IsChain old first) → at ≡ Some n → (p : IsPairing old slots at s h.nodes) → IsStep old slots first at n s h p
pairing_at old slots first at n s h e p = at_rest p.rest refl
  where
    same : {i j : ℕ} → Some i ≡ Some j → i ≡ j
    same k = cc

    at_rest : (rest : List TokenNode) → p.rest ≡ rest → IsStep old slots first at n s h p
    at_rest [] k = absurd (let a = sym e ∙ p.at_is ∙ ap first_of k in cc)
    at_rest (x ∷ rest) k = record { node = x; rest = rest; is_rest = k; number_is = same (sym (ap first_of k) ∙ sym p.at_is ∙ e) }

pub half_at : (old slots : List Slot) (first at : Option ℕ) (n : ℕ) (s : List ℕ) (h : IsChain old first) → (e : at ≡ Some n) → (p : IsPairing old slots at s h.nodes) → IsHalfPaired slots n s
half_at old slots first at n s h e p =
    let g = pairing_at old slots first at n s h e p in
    let q = p.paired in
    record {
      front = q.front;
      node = g.node;
      rest = g.rest;
      linked = subst (λ t. Linked slots None (q.front ++ t) None) g.is_rest q.linked;
      numbered = subst (λ t. IsNumbered (q.front ++ t)) g.is_rest (same_numbered (q.front ++ p.rest) h.nodes q.named h.numbered);
      number_is = g.number_is;
      left = q.left;
      are_open = q.are_open;
      all_fit = ap (λ t. unpaired_place q.left (tokens t)) (sym g.is_rest) ∙ q.all_fit;
    }

-- the nodes are as many as they were
pairing_long : (old slots : List Slot) (first at : Option ℕ) (s : List ℕ) (h : IsChain old first) (p : IsPairing old slots at s h.nodes) → length p.paired.front + length p.rest ≤ length slots
pairing_long old slots first at s h p =
    let q = p.paired in
    let a = length-append q.front p.rest in
    let b = length-map (q.front ++ p.rest) number_and_token in
    let c = ap length q.named in
    let d = length-map h.nodes number_and_token in
    let f = h.few in
    let l = q.long in
    omega (arith, a, b, c, d, f, l)

pub pairing_room : (old slots : List Slot) (first at : Option ℕ) (n : ℕ) (s : List ℕ) (h : IsChain old first) → at ≡ Some n → IsPairing old slots at s h.nodes → length s < length slots
pairing_room old slots first at n s h e p =
    let g = pairing_at old slots first at n s h e p in
    let a = pairing_long old slots first at s h p in
    let b = ap length g.is_rest in
    let d = p.few in omega (arith, a, b, d)

same_next : {a b : Slot} → Some a ≡ Some b → a.next ≡ b.next
same_next k = cc

next_is : (old slots : List Slot) (first at next : Option ℕ) (n : ℕ) (y : Slot) (s : List ℕ) (h : IsChain old first) (e : at ≡ Some n) → slice_get slots n ≡ Some y → next ≡ y.next → (p : IsPairing old slots at s h.nodes)
    → next ≡ first_of (half_at old slots first at n s h e p).rest
next_is old slots first at next n y s h e q w p =
    let g = half_at old slots first at n s h e p in
    let there = subst (λ m. slice_get slots m ≡ Some (slot_of g.node (last_or g.front None) (first_or g.rest None))) g.number_is (slot_at slots g.front g.node g.rest g.linked) in
    w ∙ sym (same_next (sym there ∙ q)) ∙ first_or_of g.rest

pub pairing_past : (old slots new : List Slot) (first at next : Option ℕ) (n : ℕ) (y : Slot) (s t : List ℕ) (h : IsChain old first) → at ≡ Some n → slice_get slots n ≡ Some y → next ≡ y.next → length t ≤ length s + 1
    → ((g : IsHalfPaired slots n s) → IsPairedTo slots new t (g.front ++ g.node ∷ g.rest) g.rest) → IsPairing old slots at s h.nodes → IsPairing old new next t h.nodes
unfolding half_at pairing_at
pairing_past old slots new first at next n y s t h e q w few f p =
    let g = half_at old slots first at n s h e p in
    let st = pairing_at old slots first at n s h e p in
    let r = f g in
    let named = r.named ∙ ap (λ u. map number_and_token (p.paired.front ++ u)) (sym st.is_rest) ∙ p.paired.named in
    record {
      rest = g.rest;
      at_is = next_is old slots first at next n y s h e q w p;
      paired = record {
        front = r.front;
        left = r.left;
        linked = r.linked;
        are_open = r.are_open;
        all_fit = r.all_fit;
        named = named;
        frees = λ ns k. r.frees ns (p.paired.frees ns k);
        long = r.long ∙ p.paired.long;
      };
      few = let a = ap length r.named in
          let b = length-map (r.front ++ g.rest) number_and_token in
          let c = length-map (g.front ++ g.node ∷ g.rest) number_and_token in
          let d = length-append r.front g.rest in
          let k = length-append g.front (g.node ∷ g.rest) in
          let m = p.few in
          omega (arith, a, b, c, d, k, m, few);
    }

pub pairing_less : (old slots new : List Slot) (first at next : Option ℕ) (n : ℕ) (y : Slot) (s t : List ℕ) (h : IsChain old first) → at ≡ Some n → slice_get slots n ≡ Some y → next ≡ y.next
    → ((g : IsHalfPaired slots n s) → IsPairedTo slots new t (g.front ++ g.node ∷ g.rest) g.rest) → IsPairing old slots at s h.nodes → length (walk (length new) next new) < length (walk (length slots) at slots)
unfolding half_at pairing_at
pairing_less old slots new first at next n y s t h e q w f p =
    let g = half_at old slots first at n s h e p in
    let st = pairing_at old slots first at n s h e p in
    let r = f g in
    let long = pairing_long old slots first at s h p in
    let some = ap length st.is_rest in
    let same = r.long in
    let now : walk (length slots) at slots ≡ p.rest = ap (λ o. walk (length slots) o slots) p.at_is
    ∙ walk_more slots (length slots) (last_or p.paired.front None) p.rest (omega (arith, long)) (linked_parts slots None p.paired.front p.rest None p.paired.linked).1 in
    let then : walk (length new) next new ≡ g.rest = ap (λ o. walk (length new) o new) (next_is old slots first at next n y s h e q w p)
    ∙ walk_more new (length new) (last_or r.front None) g.rest (omega (arith, long, some, same)) (linked_parts new None r.front g.rest None r.linked).1 in
    let a = ap length now in let b = ap length then in omega (arith, a, b, some)

pub pairing_end : (old slots : List Slot) (first at : Option ℕ) (s : List ℕ) (h : IsChain old first) → at ≡ None → IsPairing old slots at s h.nodes → IsMated old slots h.nodes × (s ≡ [])
pairing_end old slots first at s h e p = at_rest p.rest refl
  where
    q : IsPairedTo old slots s h.nodes p.rest
    q = p.paired

    end_left : (left : List Token) → place_first left ≡ None → left ≡ []
    end_left [] e = refl
    end_left (a ∷ left) e = absurd cc

    at_end : (js : List ℕ) → reverse s ≡ js → q.left ≡ [] → AreOpen IsPaired q.front js q.left → IsPaired q.front × (s ≡ [])
    at_end [] e n o = (o.0, no_stack s e)
    at_end (j ∷ js) e n o = absurd (let a = o.is_left in cc)

    at_rest : (rest : List TokenNode) → p.rest ≡ rest → IsMated old slots h.nodes × (s ≡ [])
    at_rest (x ∷ rest) k = absurd (let a = sym e ∙ p.at_is ∙ ap first_of k in cc)
    at_rest [] k =
        let whole : q.front ++ p.rest ≡ q.front = ap (λ t. q.front ++ t) k ∙ append-nil q.front in
        let none = end_left q.left (sym (fault_end q.left) ∙ ap (λ t. unpaired_place q.left (tokens t)) (sym k) ∙ q.all_fit) in
        let r = at_end (reverse s) refl none q.are_open in (
          record { mated = q.front; linked = subst (λ t. Linked slots None t None) whole q.linked; paired = r.0; named = ap (map number_and_token) (sym whole) ∙ q.named; frees = q.frees; long = q.long },
          r.1,
        )
