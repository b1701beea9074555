-- Tokens of a list from a node on, one by one.
use Rattle.std.proofs.Common.{◌≡◌, ℕ, suc, true, false, ◌==◌, List, [], ◌∷◌, ◌++◌, Option, Some, None, refl, sym, ◌∙◌, ap, subst, IfSome, append_assoc, take}
use Rattle.std.proofs.lemmas.Bool.{both_ways, cond-false, cond-true, eq-eqb, false_from_ne_true, or_left, or_parts}
use Rattle.cx_tokens.specs.declared.token.Token.{Token}
use Rattle.cx_tokens.specs.Nodes.{IsTokenList, TokenNode, nodes_before, nodes_after, first_of, nodes_from, is_live, token_of, tokens}
use Rattle.cx_tokens.proofs.NodeLaws.{IsNumbered, found, numbered_apart}
use Rattle.cx_macro.specs.Shapes.Levels.{nodes_ahead, nodes_done}
use Rattle.cx_macro.specs.Shapes.Walks.{at_most, nodes_at, walked}
use Rattle.cx_macro.proofs.LevelLaws.{IsLast, token_at, whole}

from_at : (front rest : List TokenNode) (x : TokenNode) → is_live x.number front ≡ false → nodes_from x.number (front ++ x ∷ rest) ≡ x ∷ rest
unfolding nodes_from
from_at [] rest x l = cond-true (x.number == x.number) (x ∷ rest) (nodes_from x.number rest) (eq-eqb x.number x.number refl)
from_at (y ∷ ys) rest x l =
    let p = or_parts _ _ l in cond-false (y.number == x.number) (y ∷ (ys ++ x ∷ rest)) (nodes_from x.number (ys ++ x ∷ rest)) p.0 ∙ from_at ys rest x p.1

-- the first node behind a front is none of it
not_in_front : (front rest : List TokenNode) (x : TokenNode) → IsNumbered (front ++ x ∷ rest) → is_live x.number front ≡ false
not_in_front front rest x d =
    false_from_ne_true (is_live x.number front)
    (λ l. both_ways (is_live x.number (x ∷ rest)) (numbered_apart front (x ∷ rest) d x.number l) (or_left _ _ (eq-eqb x.number x.number refl)))

-- from the first node behind a front on
from_first : (front rest : List TokenNode) → IsNumbered (front ++ rest) → nodes_at (first_of rest) (front ++ rest) ≡ rest
from_first front [] d = refl
from_first front (x ∷ rest) d = from_at front rest x (not_in_front front rest x d)

from_rest : (front rest nodes : List TokenNode) (at : Option ℕ) → IsTokenList nodes → nodes ≡ front ++ rest → at ≡ first_of rest → nodes_at at nodes ≡ rest
from_rest front rest nodes at k w e =
    ap (λ t. nodes_at t nodes) e ∙ (ap (nodes_at (first_of rest)) w ∙ from_first front rest (subst IsNumbered w k.distinct))

-- the tokens ahead of a front that is done
pub walk_ahead : (last at : Option ℕ) (nodes : List TokenNode) → IsTokenList nodes → IsLast last nodes → at ≡ first_of (nodes_ahead last nodes)
    → walked None at nodes ≡ tokens (nodes_ahead last nodes)
walk_ahead last at nodes k l e = ap tokens (from_rest (nodes_done last nodes) (nodes_ahead last nodes) nodes at k (whole last nodes l) e)

-- the token at a node, and those behind it
pub walk_first : (at next : Option ℕ) (n : ℕ) (nodes : List TokenNode) (t : Token) → IsTokenList nodes → IfSome at (λ m. is_live m nodes ≡ true) → at ≡ Some n
    → token_of n nodes ≡ Some t → next ≡ first_of (nodes_after n nodes) → walked None at nodes ≡ t ∷ walked None next nodes
walk_first at next n nodes t k l a h e =
    let f = found n nodes (subst (λ o. IfSome o (λ m. is_live m nodes ≡ true)) a l) in
    let s = token_at n nodes t f.node f.is_node h in
    let w : nodes ≡ (nodes_before n nodes ++ f.node ∷ []) ++ nodes_after n nodes = f.whole ∙ sym (append_assoc (nodes_before n nodes) (f.node ∷ []) (nodes_after n nodes)) in
    let b : nodes_at next nodes ≡ nodes_after n nodes = from_rest (nodes_before n nodes ++ f.node ∷ []) (nodes_after n nodes) nodes next k w e in
    ap (λ o. tokens (nodes_at o nodes)) a ∙ (ap tokens f.from_there ∙ (ap (λ y. y ∷ tokens (nodes_after n nodes)) (sym s) ∙ ap (λ y. t ∷ tokens y) (sym b)))

-- one is passed, of all or of so many
pub pass_all : (left left' : Option ℕ) (ts rest : List Token) (t : Token) → ts ≡ t ∷ rest → left ≡ None → left' ≡ None → at_most left ts ≡ t ∷ at_most left' rest
pass_all left left' ts rest t e l m = ap (λ o. at_most o ts) l ∙ (e ∙ ap (λ o. t ∷ at_most o rest) (sym m))

pub pass_one : (left left' : Option ℕ) (n n' : ℕ) (ts rest : List Token) (t : Token) → ts ≡ t ∷ rest → left ≡ Some n → n ≡ suc n' → left' ≡ Some n'
    → at_most left ts ≡ t ∷ at_most left' rest
pass_one left left' n n' ts rest t e l s m =
    ap (λ o. at_most o ts) l ∙ (ap (λ k. take k ts) s ∙ (ap (take (suc n')) e ∙ ap (λ o. t ∷ at_most o rest) (sym m)))
