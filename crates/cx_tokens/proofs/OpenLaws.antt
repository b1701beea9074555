-- One token more, with brackets left open.
use Rattle.std.proofs.Common.{◌≡◌, ℕ, zero, suc, ◌+◌, ◌<◌, ◌≤◌, arith, List, [], ◌∷◌, ◌++◌, Option, Some, None, true, false, refl, sym, ap, ap₂, ◌∙◌, subst, append_assoc, append-nil, cond, length, length-append, reverse, MatchOption}
use Rattle.std.specs.List.{slice_get}
use Rattle.std.proofs.lemmas.List.{map-append, reverse-append, reverse-reverse}
use Rattle.std.proofs.lemmas.Option.{slice_get_within}
use Rattle.cx_base.specs.declared.place.Place.{Place}
use Rattle.cx_tokens.specs.declared.slots.Slot.{Slot}
use Rattle.cx_tokens.specs.declared.token.Token.{Token}
use Rattle.cx_tokens.specs.Nodes.{TokenNode, first_of, tokens}
use Rattle.cx_tokens.specs.Brackets.{DoesNotFit, IsNested, IsOpen, IsUnpaired, closes, fits, left_open, more, none, nothing, opens, other, pair, unfit}
use Rattle.cx_tokens.specs.Shapes.Links.{Linked, first_or, last_or, links_of, node_of_slot, slot_of, walk}
use Rattle.cx_tokens.specs.Shapes.Pairing.{AreNested, AreOpen, Innermost, IsChain, IsRead, IsReading, IsReadTo, IsTokenAt, IsUsed}
use Rattle.cx_tokens.proofs.BracketLaws.{nested_append}
use Rattle.cx_tokens.proofs.LinkLaws.{linked_parts}
use Rattle.cx_tokens.proofs.LinkSteps.{first_or_of}

-- ---- what stays open

pub open_append : (IsInner : List TokenNode → Type 0) (f g : List TokenNode) (js : List ℕ) (left : List Token) → AreOpen IsInner f js left → ((i : List TokenNode) → IsInner i → IsInner (i ++ g))
    → AreOpen IsInner (f ++ g) js left
open_append IsInner f g [] left h k = (k f h.0, h.1)
open_append IsInner f g (j ∷ js) left h k = record {
  bracket = h.bracket;
  front = h.front;
  inner = h.inner ++ g;
  lefts = h.lefts;
  whole = ap (λ t. t ++ g) h.whole ∙ append_assoc h.front (h.bracket ∷ h.inner) g;
  number_is = h.number_is;
  is_left = h.is_left;
  is_opening = h.is_opening;
  inner_is = k h.inner h.inner_is;
  before_it = h.before_it;
}

pub open_push : (IsInner : List TokenNode → Type 0) (f : List TokenNode) (x : TokenNode) (js : List ℕ) (left : List Token) → AreOpen IsInner f js left → IsInner [] → opens x.token ≡ true
    → AreOpen IsInner (f ++ x ∷ []) (x.number ∷ js) (x.token ∷ left)
open_push IsInner f x js left h n o = record {
  bracket = x;
  front = f;
  inner = [];
  lefts = left;
  whole = refl;
  number_is = refl;
  is_left = refl;
  is_opening = o;
  inner_is = n;
  before_it = h;
}

tokens_append : (a b : List TokenNode) → tokens (a ++ b) ≡ tokens a ++ tokens b
tokens_append a b = map-append (λ (x : TokenNode). x.token) a b

pub open_tokens : (all : List TokenNode) (js : List ℕ) (left : List Token) → AreOpen AreNested all js left → IsOpen (tokens all) left
open_tokens all [] left h = subst (IsOpen (tokens all)) (sym h.1) (none h.0)
open_tokens all (j ∷ js) left h =
    subst (IsOpen (tokens all)) (sym h.is_left)
    (more (tokens h.front) (tokens h.inner) (ap tokens h.whole ∙ tokens_append h.front (h.bracket ∷ h.inner)) (open_tokens h.front js h.lefts h.before_it) h.is_opening h.inner_is)

-- ---- the stack has the innermost last

pub last_first : (s : List ℕ) (j : ℕ) → reverse (s ++ j ∷ []) ≡ j ∷ reverse s
last_first s j = reverse-append s (j ∷ [])

pub no_stack : (s : List ℕ) → reverse s ≡ [] → s ≡ []
no_stack s e = sym (reverse-reverse s) ∙ ap reverse e

-- ---- reading

pub read_start : (s : List ℕ) → s ≡ [] → IsRead [] s
read_start s e = subst (IsRead []) (sym e) (record { left = []; are_open = (nothing, refl) })

one_nested : (x : TokenNode) → opens x.token ≡ false → closes x.token ≡ false → (i : List TokenNode) → AreNested i → AreNested (i ++ x ∷ [])
one_nested x o c i h = subst IsNested (sym (tokens_append i (x ∷ []))) (nested_append h (other o c nothing))

pair_nested : (a x : TokenNode) (inner : List TokenNode) → fits a.token x.token ≡ true → AreNested inner → (i : List TokenNode) → AreNested i → AreNested (i ++ a ∷ (inner ++ x ∷ []))
pair_nested a x inner f n i h =
    subst IsNested (sym (tokens_append i (a ∷ (inner ++ x ∷ []))))
    (nested_append h (pair a.token x.token (tokens inner) [] (ap (λ t. a.token ∷ t) (tokens_append inner (x ∷ []))) f n nothing))

pub read_other : (f : List TokenNode) (x : TokenNode) (s : List ℕ) → opens x.token ≡ false → closes x.token ≡ false → IsRead f s → IsRead (f ++ x ∷ []) s
read_other f x s o c h = record { left = h.left; are_open = open_append AreNested f (x ∷ []) (reverse s) h.left h.are_open (one_nested x o c) }

pub read_open : (f : List TokenNode) (x : TokenNode) (s : List ℕ) → opens x.token ≡ true → IsRead f s → IsRead (f ++ x ∷ []) (s ++ x.number ∷ [])
read_open f x s o h = record {
  left = x.token ∷ h.left;
  are_open = subst (λ t. AreOpen AreNested (f ++ x ∷ []) t (x.token ∷ h.left)) (sym (last_first s x.number)) (open_push AreNested f x (reverse s) h.left h.are_open nothing o);
}

-- the innermost open bracket of a list has the last number
pub innermost : (f : List TokenNode) (s : List ℕ) (j : ℕ) → (h : IsRead f (s ++ j ∷ [])) → Innermost AreNested f j h.left (λ front lefts. AreOpen AreNested front (reverse s) lefts)
innermost f s j h = subst (λ t. AreOpen AreNested f t h.left) (last_first s j) h.are_open

pub read_close : (f : List TokenNode) (x : TokenNode) (s : List ℕ) (j : ℕ) → (h : IsRead f (s ++ j ∷ [])) → fits (innermost f s j h).bracket.token x.token ≡ true → IsRead (f ++ x ∷ []) s
read_close f x s j h k =
    let m = innermost f s j h in
    record {
      left = m.lefts;
      are_open = subst (λ t. AreOpen AreNested t (reverse s) m.lefts) (sym (ap (λ t. t ++ x ∷ []) m.whole ∙ append_assoc m.front (m.bracket ∷ m.inner) (x ∷ [])))
          (open_append AreNested m.front (m.bracket ∷ (m.inner ++ x ∷ [])) (reverse s) m.lefts m.before_it (pair_nested m.bracket x m.inner k m.inner_is));
    }

pub read_unfit : (f back : List TokenNode) (x : TokenNode) (s : List ℕ) (j : ℕ) → (h : IsRead f (s ++ j ∷ [])) → closes x.token ≡ true → fits (innermost f s j h).bracket.token x.token ≡ false
    → IsUnpaired (tokens (f ++ x ∷ back)) x.token.place
read_unfit f back x s j h c k =
    let m = innermost f s j h in
    unfit x.token (tokens f) (tokens back) h.left (tokens_append f (x ∷ back)) (open_tokens f (reverse (s ++ j ∷ [])) h.left h.are_open) c
    (subst (λ l. DoesNotFit l x.token) (sym m.is_left) k)

pub read_none_open : (f back : List TokenNode) (x : TokenNode) → IsRead f [] → closes x.token ≡ true → IsUnpaired (tokens (f ++ x ∷ back)) x.token.place
read_none_open f back x h c =
    unfit x.token (tokens f) (tokens back) h.left (tokens_append f (x ∷ back)) (open_tokens f [] h.left h.are_open) c (subst (λ l. DoesNotFit l x.token) (sym h.are_open.1) tt)

pub read_all : (f : List TokenNode) → IsRead f [] → IsNested (tokens f)
read_all f h = h.are_open.0

pub read_left : (f : List TokenNode) (s : List ℕ) (j : ℕ) → (h : IsRead f (s ++ j ∷ [])) → IsUnpaired (tokens f) (innermost f s j h).bracket.token.place
read_left f s j h =
    let m = innermost f s j h in
    left_open m.bracket.token m.lefts (subst (IsOpen (tokens f)) m.is_left (open_tokens f (reverse (s ++ j ∷ [])) h.left h.are_open))

-- ---- along the links

-- the slot of a node
pub slot_at : (s : List Slot) (a : List TokenNode) (y : TokenNode) (b : List TokenNode) → Linked s None (a ++ y ∷ b) None → slice_get s y.number ≡ Some (slot_of y (last_or a None) (first_or b None))
slot_at s a y b k = (linked_parts s None a (y ∷ b) None k).1.0

pub record HasSlot (s : List Slot) (n : ℕ) (y : TokenNode) : Type 0 where
  pub before : Option ℕ
  pub after : Option ℕ
  pub is : slice_get s n ≡ Some (slot_of y before after)

pub slot_here : (s : List Slot) (n : ℕ) (a : List TokenNode) (y : TokenNode) (b : List TokenNode) → y.number ≡ n → Linked s None (a ++ y ∷ b) None → HasSlot s n y
slot_here s n a y b e k = subst (λ m. HasSlot s m y) e (record { before = last_or a None; after = first_or b None; is = slot_at s a y b k })

pub slot_used : (s : List Slot) (n : ℕ) (y : TokenNode) → HasSlot s n y → IsUsed s n
slot_used s n y h = (slot_of y h.before h.after, y.token, h.is, refl)

pub token_is : (s : List Slot) (n : ℕ) (y : TokenNode) (t : Token) → HasSlot s n y → IsTokenAt s n t → t ≡ y.token
token_is s n y t h f = same (f (slot_of y h.before h.after) h.is)
  where
    same : {a b : Token} → Some a ≡ Some b → b ≡ a
    same e = cc

pub slot_in : (s : List Slot) (n : ℕ) (y : TokenNode) → HasSlot s n y → n < length s
slot_in s n y h = slice_get_within s n (slot_of y h.before h.after) h.is

-- the slot of the innermost open bracket in front of others
pub bracket_slot : (s : List Slot) (f front inner back : List TokenNode) (a : TokenNode) (j : ℕ) → f ≡ front ++ a ∷ inner → a.number ≡ j → Linked s None (f ++ back) None → HasSlot s j a
bracket_slot s f front inner back a j w n k =
    slot_here s j front a (inner ++ back) n (subst (λ t. Linked s None t None) (ap (λ t. t ++ back) w ∙ append_assoc front (a ∷ inner) back) k)

-- what is told of a bracket that is open in front of the one at hand
pub open_slot : (slots : List Slot) (number j : ℕ) (s old : List ℕ) → (e : old ≡ s ++ j ∷ []) → (h : IsReadTo slots number old) → HasSlot slots j (innermost h.front s j (subst (IsRead h.front) e h.read)).bracket
open_slot slots number j s old e h =
    let m = innermost h.front s j (subst (IsRead h.front) e h.read) in
    bracket_slot slots h.front m.front m.inner (h.node ∷ h.rest) m.bracket j m.whole m.number_is h.linked

pub here_slot : (slots : List Slot) (number : ℕ) (s : List ℕ) → (h : IsReadTo slots number s) → HasSlot slots number h.node
here_slot slots number s h = slot_here slots number h.front h.node h.rest h.number_is h.linked

pub past_open : (slots : List Slot) (number : ℕ) (t : Token) (s new : List ℕ) → (h : IsReadTo slots number s) → IsTokenAt slots number t → opens t ≡ true → new ≡ s ++ number ∷ [] → IsRead (h.front ++ h.node ∷ []) new
past_open slots number t s new h f o e =
    subst (IsRead (h.front ++ h.node ∷ [])) (ap (λ n. s ++ n ∷ []) h.number_is ∙ sym e)
    (read_open h.front h.node s (sym (ap opens (token_is slots number h.node t (here_slot slots number s h) f)) ∙ o) h.read)

pub past_other : (slots : List Slot) (number : ℕ) (t : Token) (s : List ℕ) → (h : IsReadTo slots number s) → IsTokenAt slots number t → opens t ≡ false → closes t ≡ false → IsRead (h.front ++ h.node ∷ []) s
past_other slots number t s h f o c =
    let is = token_is slots number h.node t (here_slot slots number s h) f in
    read_other h.front h.node s (sym (ap opens is) ∙ o) (sym (ap closes is) ∙ c) h.read

pub past_none_open : (slots : List Slot) (number : ℕ) (t : Token) (s : List ℕ) → (h : IsReadTo slots number s) → IsTokenAt slots number t → closes t ≡ true → s ≡ [] → IsUnpaired (tokens (h.front ++ h.node ∷ h.rest)) t.place
past_none_open slots number t s h f c e =
    let is = token_is slots number h.node t (here_slot slots number s h) f in
    subst (λ u. IsUnpaired (tokens (h.front ++ h.node ∷ h.rest)) u.place) (sym is)
    (read_none_open h.front h.rest h.node (subst (IsRead h.front) e h.read) (sym (ap closes is) ∙ c))

pub past_close : (slots : List Slot) (number j : ℕ) (t u : Token) (s old : List ℕ) → (h : IsReadTo slots number old) → IsTokenAt slots number t → IsTokenAt slots j u → closes t ≡ true → old ≡ s ++ j ∷ []
    → (o : Option Place) → o ≡ cond (fits u t) None (Some t.place) → MatchOption o (IsRead (h.front ++ h.node ∷ []) s) (λ at. IsUnpaired (tokens (h.front ++ h.node ∷ h.rest)) at)
past_close slots number j t u s old h f g c e o is =
    let x = h.node in
    let r = subst (IsRead h.front) e h.read in
    let m = innermost h.front s j r in
    let here = token_is slots number x t (here_slot slots number old h) f in
    let there = token_is slots j m.bracket u (open_slot slots number j s old e h) g in
    let k : closes x.token ≡ true = sym (ap closes here) ∙ c in
    let told : o ≡ cond (fits m.bracket.token x.token) None (Some x.token.place) = is ∙ ap₂ (λ a b. cond (fits a b) None (Some b.place)) there here in
    subst (λ t. MatchOption t (IsRead (h.front ++ x ∷ []) s) (λ at. IsUnpaired (tokens (h.front ++ x ∷ h.rest)) at)) (sym told)
    (elim (fits m.bracket.token x.token)
    as (λ b. fits m.bracket.token x.token ≡ b → MatchOption (cond b None (Some x.token.place)) (IsRead (h.front ++ x ∷ []) s) (λ at. IsUnpaired (tokens (h.front ++ x ∷ h.rest)) at)) [
      | true ↦ λ fit. read_close h.front x s j r fit
      | false ↦ λ fit. read_unfit h.front h.rest x s j r k fit
    ]
    refl)

-- ---- from one node to the next

pub reading_start : (nodes : List TokenNode) (at : Option ℕ) (s : List ℕ) → at ≡ first_of nodes → s ≡ [] → IsReading nodes at s
reading_start nodes at s e n = record { front = []; rest = nodes; whole = refl; at_is = e; read = read_start s n; few = let l = ap length n in omega (arith, l) }

pub reading_to : (slots : List Slot) (first at : Option ℕ) (n : ℕ) (s : List ℕ) (h : IsChain slots first) → at ≡ Some n → IsReading h.nodes at s → IsReadTo slots n s
reading_to slots first at n s h e r = at_rest r.rest refl
  where
    same : {i j : ℕ} → Some i ≡ Some j → i ≡ j
    same k = cc

    at_rest : (rest : List TokenNode) → r.rest ≡ rest → IsReadTo slots n s
    at_rest [] k = absurd (let a = sym e ∙ r.at_is ∙ ap first_of k in cc)
    at_rest (x ∷ rest) k = record {
      front = r.front;
      node = x;
      rest = rest;
      linked = subst (λ t. Linked slots None t None) (r.whole ∙ ap (λ t. r.front ++ t) k) h.linked;
      number_is = same (sym (ap first_of k) ∙ sym r.at_is ∙ e);
      read = r.read;
    }

-- there is room for one more
pub reading_room : (slots : List Slot) (first at : Option ℕ) (n : ℕ) (s : List ℕ) (h : IsChain slots first) → at ≡ Some n → IsReading h.nodes at s → length s < length slots
reading_room slots first at n s h e r = at_rest r.rest refl
  where
    at_rest : (rest : List TokenNode) → r.rest ≡ rest → length s < length slots
    at_rest [] k = absurd (let a = sym e ∙ r.at_is ∙ ap first_of k in cc)
    at_rest (x ∷ rest) k =
        let a = ap length (r.whole ∙ ap (λ t. r.front ++ t) k) ∙ length-append r.front (x ∷ rest) in
        let b = h.few in let d = r.few in omega (arith, a, b, d)

-- what is read with one node more
pub reading_past : (slots : List Slot) (first at next : Option ℕ) (n : ℕ) (y : Slot) (s new : List ℕ) (o : Option Place) (h : IsChain slots first) → at ≡ Some n → slice_get slots n ≡ Some y → next ≡ y.next → o ≡ None
    → length new ≤ length s + 1
    → ((g : IsReadTo slots n s) → MatchOption o (IsRead (g.front ++ g.node ∷ []) new) (λ p. IsUnpaired (tokens (g.front ++ g.node ∷ g.rest)) p)) → IsReading h.nodes at s → IsReading h.nodes next new
reading_past slots first at next n y s new o h e q w gone few f r = at_rest r.rest refl
  where
    same : {i j : ℕ} → Some i ≡ Some j → i ≡ j
    same k = cc

    same_next : {a b : Slot} → Some a ≡ Some b → a.next ≡ b.next
    same_next k = cc

    at_rest : (rest : List TokenNode) → r.rest ≡ rest → IsReading h.nodes next new
    at_rest [] k = absurd (let a = sym e ∙ r.at_is ∙ ap first_of k in cc)
    at_rest (x ∷ rest) k =
        let whole = r.whole ∙ ap (λ t. r.front ++ t) k in
        let number : x.number ≡ n = same (sym (ap first_of k) ∙ sym r.at_is ∙ e) in
        let linked = subst (λ t. Linked slots None t None) whole h.linked in
        let g : IsReadTo slots n s = record { front = r.front; node = x; rest = rest; linked = linked; number_is = number; read = r.read } in
        let there = subst (λ m. slice_get slots m ≡ Some (slot_of x (last_or r.front None) (first_or rest None))) number (slot_at slots r.front x rest linked) in
        record {
          front = r.front ++ x ∷ [];
          rest = rest;
          whole = whole ∙ sym (append_assoc r.front (x ∷ []) rest);
          at_is = w ∙ sym (same_next (sym there ∙ q)) ∙ first_or_of rest;
          read = subst (λ t. MatchOption t (IsRead (r.front ++ x ∷ []) new) (λ p. IsUnpaired (tokens (r.front ++ x ∷ rest)) p)) gone (f g);
          few = let a = length-append r.front (x ∷ []) in let b = r.few in omega (arith, a, b, few);
        }

pub reading_unfit : (slots : List Slot) (first at : Option ℕ) (n : ℕ) (s new : List ℕ) (o : Option Place) (p : Place) (h : IsChain slots first) → at ≡ Some n → o ≡ Some p
    → ((g : IsReadTo slots n s) → MatchOption o (IsRead (g.front ++ g.node ∷ []) new) (λ p. IsUnpaired (tokens (g.front ++ g.node ∷ g.rest)) p)) → IsReading h.nodes at s → IsUnpaired (tokens h.nodes) p
reading_unfit slots first at n s new o p h e some f r = at_rest r.rest refl
  where
    same : {i j : ℕ} → Some i ≡ Some j → i ≡ j
    same k = cc

    at_rest : (rest : List TokenNode) → r.rest ≡ rest → IsUnpaired (tokens h.nodes) p
    at_rest [] k = absurd (let a = sym e ∙ r.at_is ∙ ap first_of k in cc)
    at_rest (x ∷ rest) k =
        let whole = r.whole ∙ ap (λ t. r.front ++ t) k in
        let g : IsReadTo slots n s = record { front = r.front; node = x; rest = rest; linked = subst (λ t. Linked slots None t None) whole h.linked; number_is = same (sym (ap first_of k) ∙ sym r.at_is ∙ e); read = r.read } in
        subst (λ t. IsUnpaired (tokens t) p) (sym whole)
        (subst (λ t. MatchOption t (IsRead (r.front ++ x ∷ []) new) (λ p. IsUnpaired (tokens (r.front ++ x ∷ rest)) p)) some (f g))

-- all nodes are read
pub read_whole : (nodes : List TokenNode) (at : Option ℕ) (s : List ℕ) → at ≡ None → IsReading nodes at s → IsRead nodes s
read_whole nodes at s e r = at_rest r.rest refl
  where
    at_rest : (rest : List TokenNode) → r.rest ≡ rest → IsRead nodes s
    at_rest [] k = subst (λ t. IsRead t s) (sym (r.whole ∙ ap (λ t. r.front ++ t) k ∙ append-nil r.front)) r.read
    at_rest (x ∷ rest) k = absurd (let a = sym e ∙ r.at_is ∙ ap first_of k in cc)

pub reading_all : (nodes : List TokenNode) (at : Option ℕ) (s : List ℕ) → at ≡ None → s ≡ [] → IsReading nodes at s → IsNested (tokens nodes)
reading_all nodes at s e n r = read_all nodes (subst (IsRead nodes) n (read_whole nodes at s e r))

left_slot : (slots : List Slot) (first at : Option ℕ) (j : ℕ) (s old : List ℕ) (h : IsChain slots first) → (w : old ≡ s ++ j ∷ []) → (r : IsReading h.nodes at old)
    → (e : at ≡ None) → HasSlot slots j (innermost h.nodes s j (subst (IsRead h.nodes) w (read_whole h.nodes at old e r))).bracket
left_slot slots first at j s old h w r e =
    let m = innermost h.nodes s j (subst (IsRead h.nodes) w (read_whole h.nodes at old e r)) in
    bracket_slot slots h.nodes m.front m.inner [] m.bracket j m.whole m.number_is (subst (λ t. Linked slots None t None) (sym (append-nil h.nodes)) h.linked)

pub left_used : (slots : List Slot) (first at : Option ℕ) (j : ℕ) (s old : List ℕ) (h : IsChain slots first) → at ≡ None → old ≡ s ++ j ∷ [] → IsReading h.nodes at old → IsUsed slots j
left_used slots first at j s old h e w r = slot_used slots j _ (left_slot slots first at j s old h w r e)

pub left_place : (slots : List Slot) (first at : Option ℕ) (j : ℕ) (t : Token) (s old : List ℕ) (h : IsChain slots first) → at ≡ None → old ≡ s ++ j ∷ [] → IsTokenAt slots j t → IsReading h.nodes at old → IsUnpaired (tokens h.nodes) t.place
left_place slots first at j t s old h e w f r =
    let g = subst (IsRead h.nodes) w (read_whole h.nodes at old e r) in
    let m = innermost h.nodes s j g in
    subst (λ u. IsUnpaired (tokens h.nodes) u.place) (sym (token_is slots j m.bracket t (left_slot slots first at j s old h w r e) f)) (read_left h.nodes s j g)

-- ---- how many nodes are left

pub walk_more : (s : List Slot) (k : ℕ) (p : Option ℕ) (ys : List TokenNode) → length ys ≤ k → Linked s p ys None → walk k (first_of ys) s ≡ ys
unfolding walk
walk_more s zero p [] l h = refl
walk_more s (suc k) p [] l h = refl
walk_more s zero p (y ∷ ys) l h = absurd (omega arith)
walk_more s (suc k) p (y ∷ ys) l h =
    ap (λ o. node_of_slot y.number o (walk k (links_of o) s)) h.0 ∙ ap (λ t. y ∷ t) (ap (λ o. walk k o s) (first_or_of ys) ∙ walk_more s k (Some y.number) ys (omega arith) h.1)

-- with one node less at a link
pub walk_less : (slots : List Slot) (first at next : Option ℕ) (n : ℕ) (y : Slot) (s : List ℕ) (h : IsChain slots first) → at ≡ Some n → slice_get slots n ≡ Some y → next ≡ y.next → IsReading h.nodes at s
    → length (walk (length slots) next slots) < length (walk (length slots) at slots)
walk_less slots first at next n y s h e q w r = at_rest r.rest refl
  where
    same : {i j : ℕ} → Some i ≡ Some j → i ≡ j
    same k = cc

    same_next : {a b : Slot} → Some a ≡ Some b → a.next ≡ b.next
    same_next k = cc

    at_rest : (rest : List TokenNode) → r.rest ≡ rest → length (walk (length slots) next slots) < length (walk (length slots) at slots)
    at_rest [] k = absurd (let a = sym e ∙ r.at_is ∙ ap first_of k in cc)
    at_rest (x ∷ rest) k =
        let whole = r.whole ∙ ap (λ t. r.front ++ t) k in
        let number : x.number ≡ n = same (sym (ap first_of k) ∙ sym r.at_is ∙ e) in
        let linked = subst (λ t. Linked slots None t None) whole h.linked in
        let there = subst (λ m. slice_get slots m ≡ Some (slot_of x (last_or r.front None) (first_or rest None))) number (slot_at slots r.front x rest linked) in
        let parts = linked_parts slots None r.front (x ∷ rest) None linked in
        let long = ap length whole ∙ length-append r.front (x ∷ rest) in
        let few = h.few in
        let now : walk (length slots) at slots ≡ x ∷ rest = ap (λ o. walk (length slots) o slots) (r.at_is ∙ ap first_of k) ∙ walk_more slots (length slots) (last_or r.front None) (x ∷ rest) (omega (arith, long, few)) parts.1 in
        let then : walk (length slots) next slots ≡ rest = ap (λ o. walk (length slots) o slots) (w ∙ sym (same_next (sym there ∙ q)) ∙ first_or_of rest)
        ∙ walk_more slots (length slots) (Some x.number) rest (omega (arith, long, few)) parts.1.1 in
        let a = ap length now in let b = ap length then in omega (arith, a, b)
