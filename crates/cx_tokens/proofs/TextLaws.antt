-- A node with another text.
use Rattle.std.proofs.Common.{◌≡◌, ℕ, List, [], ◌∷◌, ◌++◌, Option, None, Some, true, false, ◌||◌, refl, sym, ap, ap₂, ◌∙◌, subst, cond, map, length, length-append, arith, ◌==◌}
use Rattle.std.specs.List.{IsDistinct}
use Rattle.cx_tokens.specs.declared.slots.Slot.{Slot}
use Rattle.cx_tokens.specs.Nodes.{IsTokenList, TokenNode, first_of, is_live, node_of, nodes_after, nodes_before, nodes_from, partner_in, partner_of}
use Rattle.cx_tokens.specs.Shapes.Links.{FreeLinked, IsLinks, Linked, changed, with_slot_text}
use Rattle.cx_tokens.specs.Shapes.Sweeping.{SetsText, with_text}
use Rattle.cx_tokens.proofs.LinkEdits.{change_linked}
use Rattle.cx_tokens.proofs.LinkLaws.{changed_length, free_frame, live_not_free}
use Rattle.cx_tokens.proofs.LinkRuns.{numbered_dead, split_at}
use Rattle.cx_tokens.proofs.NodeLaws.{IsNumbered, found}

pub live_texted : (k : ℕ) (a : List TokenNode) (x : TokenNode) (b : List TokenNode) (text parts : List ℕ) → is_live k (a ++ with_text x text parts ∷ b) ≡ is_live k (a ++ x ∷ b)
unfolding with_text
live_texted k [] x b text parts = refl
live_texted k (y ∷ a) x b text parts = ap (λ t. (y.number == k) || t) (live_texted k a x b text parts)

numbers_texted : (a : List TokenNode) (x : TokenNode) (b : List TokenNode) (text parts : List ℕ) → map (λ x. x.number) (a ++ with_text x text parts ∷ b) ≡ map (λ x. x.number) (a ++ x ∷ b)
unfolding with_text
numbers_texted [] x b text parts = refl
numbers_texted (y ∷ a) x b text parts = ap (λ t. y.number ∷ t) (numbers_texted a x b text parts)

partners_texted : (n : ℕ) (a : List TokenNode) (x : TokenNode) (b : List TokenNode) (text parts : List ℕ) → partner_of n (a ++ with_text x text parts ∷ b) ≡ partner_of n (a ++ x ∷ b)
unfolding with_text
partners_texted n [] x b text parts =
    elim (x.number == n) as (λ t. partner_in (cond t (Some (with_text x text parts)) (node_of n b)) ≡ partner_in (cond t (Some x) (node_of n b))) [ true ↦ refl | false ↦ refl ]
partners_texted n (y ∷ a) x b text parts =
    elim (y.number == n) as (λ t. partner_in (cond t (Some y) (node_of n (a ++ with_text x text parts ∷ b))) ≡ partner_in (cond t (Some y) (node_of n (a ++ x ∷ b))))
    [ true ↦ refl | false ↦ partners_texted n a x b text parts ]

list_texted : (a : List TokenNode) (x : TokenNode) (b : List TokenNode) (text parts : List ℕ) → IsTokenList (a ++ x ∷ b) → IsTokenList (a ++ with_text x text parts ∷ b)
list_texted a x b text parts l = record {
  distinct = subst (IsDistinct (λ a b. a == b)) (sym (numbers_texted a x b text parts)) l.distinct;
  mutual_partners = λ n m e. partners_texted m a x b text parts ∙ l.mutual_partners n m (sym (partners_texted n a x b text parts) ∙ e);
}

first_texted : (a : List TokenNode) (x : TokenNode) (b : List TokenNode) (text parts : List ℕ) → first_of (a ++ with_text x text parts ∷ b) ≡ first_of (a ++ x ∷ b)
unfolding with_text
first_texted [] x b text parts = refl
first_texted (y ∷ a) x b text parts = refl

cons_same : {x y : TokenNode} {xs ys : List TokenNode} → x ∷ xs ≡ y ∷ ys → (x ≡ y) × (xs ≡ ys)
cons_same e = (cc, cc)

text_linked : (s : List Slot) (a : List TokenNode) (x : TokenNode) (b : List TokenNode) (text parts : List ℕ) → IsNumbered (a ++ x ∷ b) → Linked s None (a ++ x ∷ b) None
    → Linked (changed x.number (with_slot_text text parts) s) None (a ++ with_text x text parts ∷ b) None
unfolding with_text
text_linked s a x b text parts d k = change_linked s a x (with_text x text parts) b (with_slot_text text parts) refl (λ p q. refl) d k

-- linked nodes with the text set
pub record IsTextSet (s : List Slot) (first : Option ℕ) (len : ℕ) (free : Option ℕ) (spare n : ℕ) (text parts : List ℕ) (old : List TokenNode) : Type 0 where
  pub links : IsLinks s first len free spare
  pub sets : SetsText n text parts old links.nodes

pub text_links : (s t : List Slot) (first : Option ℕ) (len : ℕ) (free : Option ℕ) (spare : ℕ) (h : IsLinks s first len free spare) (n m : ℕ) (text parts : List ℕ) → is_live n h.nodes ≡ true → m ≡ n
    → t ≡ changed m (with_slot_text text parts) s → IsTextSet t first len free spare n text parts h.nodes
unfolding SetsText
text_links s t first len free spare h n m text parts l e w =
    let f = found n h.nodes l in
    let a = nodes_before n h.nodes in
    let b = nodes_after n h.nodes in
    let x = f.node in
    let x2 = with_text x text parts in
    let g = with_slot_text text parts in
    let is : t ≡ changed x.number g s = w ∙ ap (λ k. changed k g s) (e ∙ sym f.number) in
    let list = subst IsTokenList f.whole h.is_list in
    let linked = subst (λ ns. Linked s None ns None) f.whole h.linked in
    let busy = live_not_free n s None h.nodes None h.frees h.linked h.free_linked l in
    let long : length t ≡ length s = ap length is ∙ changed_length x.number g s in
    let all = h.all in
    let few = h.few in
    record {
      links = record {
        nodes = a ++ x2 ∷ b;
        frees = h.frees;
        linked = subst (λ u. Linked u None (a ++ x2 ∷ b) None) (sym is) (text_linked s a x b text parts list.distinct linked);
        first_is = h.first_is ∙ ap first_of f.whole ∙ sym (first_texted a x b text parts);
        len_is = (let p = h.len_is ∙ ap length f.whole ∙ length-append a (x ∷ b) in let q = length-append a (x2 ∷ b) in omega (arith, p, q));
        is_list = list_texted a x b text parts list;
        free_linked = subst (λ u. FreeLinked u h.frees) (sym (w ∙ ap (λ k. changed k g s) e)) (free_frame n g s h.frees busy h.free_linked);
        free_is = h.free_is;
        spare_is = h.spare_is;
        distinct = h.distinct;
        all = omega (arith, all, long);
        few = omega (arith, few, long);
      };
      sets = λ front back y whole number.
          let u = split_at n front y back (subst (λ k. is_live k front ≡ false) number (numbered_dead front y back (subst IsNumbered whole h.is_list.distinct))) number in
          let same_a : a ≡ front = ap (nodes_before n) whole ∙ u.before in
          let same_b : b ≡ back = ap (nodes_after n) whole ∙ u.after in
          let same_x : x ≡ y = (cons_same (sym f.from_there ∙ ap (nodes_from n) whole ∙ u.from)).0 in
          ap₂ (λ p q. p ++ with_text x text parts ∷ q) same_a same_b ∙ ap (λ z. front ++ with_text z text parts ∷ back) same_x;
    }
