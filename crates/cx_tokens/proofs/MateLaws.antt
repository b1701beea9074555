-- Paired brackets are partners of each other.
use Rattle.std.proofs.Common.{◌≡◌, ℕ, arith, List, [], ◌∷◌, ◌++◌, Option, Some, refl, sym, ap, ◌∙◌, subst, append_assoc, append-nil, map, length, ◌==◌}
use Rattle.std.specs.List.{AllByRecursion, IsDistinct}
use Rattle.std.proofs.lemmas.List.{length-map}
use Rattle.cx_tokens.specs.Nodes.{IsTokenList, TokenNode, first_of, nodes_before, nodes_after, partner_in, partner_of}
use Rattle.cx_tokens.specs.Brackets.{IsPaired, nothing, other, pair}
use Rattle.cx_tokens.specs.declared.slots.Slot.{Slot}
use Rattle.cx_tokens.specs.Shapes.Links.{IsLinks, IsPut}
use Rattle.cx_tokens.specs.Shapes.Pairing.{IsChain, IsMated, number_and_token}
use Rattle.cx_tokens.proofs.NodeLaws.{IsNumbered, found, partner_live}
use Rattle.cx_tokens.proofs.PartLaws.{node_at}
use Rattle.cx_tokens.proofs.BalanceLaws.{named_parts}

-- the partner of a node is in the list, with the node as its partner
record HasMate (all : List TokenNode) (x : TokenNode) (m : ℕ) : Type 0 where
  front : List TokenNode
  mate : TokenNode
  back : List TokenNode
  whole : all ≡ front ++ mate ∷ back
  number : mate.number ≡ m
  mutual_one : mate.partner ≡ Some x.number

AreMated : List TokenNode → List TokenNode → Type 0
AreMated all xs = AllByRecursion (λ x. (m : ℕ) → x.partner ≡ Some m → HasMate all x m) xs

mated_append : (all a b : List TokenNode) → AreMated all a → AreMated all b → AreMated all (a ++ b)
unfolding AreMated
mated_append all [] b h k = k
mated_append all (x ∷ a) b h k = (h.0, mated_append all a b h.1 k)

mated_at : (all f g : List TokenNode) (x : TokenNode) → AreMated all (f ++ x ∷ g) → (m : ℕ) → x.partner ≡ Some m → HasMate all x m
unfolding AreMated
mated_at all [] g x h = h.0
mated_at all (y ∷ f) g x h = mated_at all f g x h.1

paired_mated : {xs : List TokenNode} → IsPaired xs → (all f g : List TokenNode) → all ≡ f ++ (xs ++ g) → AreMated all xs
unfolding AreMated
paired_mated nothing all f g e = tt
paired_mated (other {x = x} {rest = rest} o c p h) all f g e =
    (λ m q. absurd (cc), paired_mated h all (f ++ x ∷ []) g (e ∙ sym (append_assoc f (x ∷ []) (rest ++ g))))
paired_mated (pair a b inner rest w t p q h k) all f g e =
    let u : all ≡ f ++ a ∷ (inner ++ b ∷ (rest ++ g)) = e ∙ ap (λ s. f ++ (s ++ g)) w ∙ ap (λ s. f ++ a ∷ s) (append_assoc inner (b ∷ rest) g) in
    let v : all ≡ (f ++ a ∷ inner) ++ b ∷ (rest ++ g) = u ∙ sym (append_assoc f (a ∷ inner) (b ∷ (rest ++ g))) in
    let i = paired_mated h all (f ++ a ∷ []) (b ∷ (rest ++ g)) (u ∙ sym (append_assoc f (a ∷ []) (inner ++ b ∷ (rest ++ g)))) in
    let j = paired_mated k all ((f ++ a ∷ inner) ++ b ∷ []) g (v ∙ sym (append_assoc (f ++ a ∷ inner) (b ∷ []) (rest ++ g))) in
    let whole : AreMated all (a ∷ (inner ++ b ∷ rest)) = (
      λ m r. record { front = f ++ a ∷ inner; mate = b; back = rest ++ g; whole = v; number = same_some (sym p ∙ r); mutual_one = q },
      mated_append all inner (b ∷ rest) i (
        λ m r. record { front = f; mate = a; back = inner ++ b ∷ (rest ++ g); whole = u; number = same_some (sym q ∙ r); mutual_one = p },
        j,
      ),
    ) in
    subst (AreMated all) (sym w) whole
  where
    same_some : {n m : ℕ} → Some n ≡ Some m → n ≡ m
    same_some r = cc

mate_partner : (all : List TokenNode) (x : TokenNode) (m : ℕ) → IsNumbered all → HasMate all x m → partner_of m all ≡ Some x.number
mate_partner all x m d k =
    let a = ap partner_in (node_at k.front k.mate k.back (subst IsNumbered k.whole d)) ∙ k.mutual_one in
    subst (λ t. partner_of m t ≡ Some x.number) (sym k.whole) (subst (λ n. partner_of n (k.front ++ k.mate ∷ k.back) ≡ Some x.number) k.number a)

mated_mutual : (all : List TokenNode) → IsNumbered all → AreMated all all → (n m : ℕ) → partner_of n all ≡ Some m → partner_of m all ≡ Some n
mated_mutual all d h n m e =
    let f = found n all (partner_live n m all e) in
    let p : f.node.partner ≡ Some m = sym (ap partner_in f.is_node) ∙ e in
    mate_partner all f.node m d (mated_at all (nodes_before n all) (nodes_after n all) f.node (subst (AreMated all) f.whole h) m p) ∙ ap Some f.number

pub paired_list : (all : List TokenNode) → IsPaired all → IsNumbered all → IsTokenList all
paired_list all h d = record { distinct = d; mutual_partners = mated_mutual all d (paired_mated h all [] [] (sym (append-nil all))) }

abbrev pub chain_of : (slots : List Slot) (first : Option ℕ) (len : ℕ) (free : Option ℕ) (spare : ℕ) → IsLinks slots first len free spare → IsChain slots first
chain_of slots first len free spare h = record {
  nodes = h.nodes;
  linked = h.linked;
  first_is = h.first_is;
  numbered = h.is_list.distinct;
  few = let a = h.all in let b = h.len_is in omega (arith, a, b);
}

pub kept_paired : (old new : List Slot) (first : Option ℕ) (len : ℕ) (free : Option ℕ) (spare : ℕ) (h : IsLinks old first len free spare) → (m : IsMated old new h.nodes) → IsPut new first len free spare m.mated
kept_paired old new first len free spare h m =
    let numbers = (named_parts m.mated h.nodes m.named).0 in
    record {
      links = record {
        nodes = m.mated;
        frees = h.frees;
        linked = m.linked;
        first_is = h.first_is ∙ same_first h.nodes m.mated (sym numbers);
        len_is = h.len_is ∙ sym (length-map h.nodes number_and_token) ∙ ap length (sym m.named) ∙ length-map m.mated number_and_token;
        is_list = paired_list m.mated m.paired (subst (IsDistinct (λ a b. a == b)) (sym numbers) h.is_list.distinct);
        free_linked = m.frees h.frees h.free_linked;
        free_is = h.free_is;
        spare_is = h.spare_is;
        distinct = h.distinct;
        all = h.all ∙ sym m.long;
        few = let a = h.few in let b = m.long in omega (arith, a, b);
      };
      nodes_are = refl;
    }
  where
    same_first : (xs ys : List TokenNode) → map (λ x. x.number) xs ≡ map (λ x. x.number) ys → first_of xs ≡ first_of ys
    same_first [] [] e = refl
    same_first [] (y ∷ ys) e = absurd cc
    same_first (x ∷ xs) [] e = absurd cc
    same_first (x ∷ xs) (y ∷ ys) e = ap Some (head e)
      where
        head : {a b : ℕ} {u v : List ℕ} → a ∷ u ≡ b ∷ v → a ≡ b
        head e = cc
