-- Runs of nodes put in and taken out.
use Rattle.std.proofs.Common.{◌≡◌, ℕ, ◌<◌, arith, List, [], ◌∷◌, ◌++◌, Option, Some, None, Bool, true, false, not, ◌||◌, ⊎_elim, refl, sym, ap, ap₂, ◌∙◌, subst, cond, map, length, length-append, append_assoc, append-nil, ◌==◌}
use Rattle.std.specs.List.{IsDistinct, list_any}
use Rattle.std.specs.Option.{option_map}
use Rattle.std.proofs.lemmas.Bool.{both_ways, cases_Bool, cond-false, cond-true, eq-eqb, eqb-true, false_from_ne_true, not-true, or_cases, or_left, or_parts, or_right}
use Rattle.std.proofs.lemmas.List.{length-map}
use Rattle.cx_tokens.specs.declared.token.Token.{Token}
use Rattle.cx_tokens.specs.Nodes.{AreNew, IsTokenList, TokenNode, erased, first_of, inserted, is_live, live_partner, new_node, new_nodes, nodes_after, nodes_before, nodes_from, nodes_to, spliced, token_of, tokens, with_live_partners}
use Rattle.cx_tokens.specs.Shapes.Links.{last_or, rest_from}
use Rattle.cx_tokens.proofs.NodeLaws.{IsNumbered, dead_parts, found, live_append, live_left, live_right, numbered_apart, numbered_head, numbered_right}
use Rattle.cx_tokens.proofs.PartLaws.{kept_numbered, live_settled, fresh_none, same_settled}
use Rattle.cx_tokens.proofs.PlaceLaws.{whole_up}
use Rattle.cx_tokens.proofs.LinkEdits.{distinct_cons}
use Rattle.cx_tokens.proofs.LinkLaws.{last_live_or}

-- ---- a list at one of its nodes

pub record SplitAt (n : ℕ) (a : List TokenNode) (y : TokenNode) (b : List TokenNode) : Type 0 where
  pub before : nodes_before n (a ++ y ∷ b) ≡ a
  pub after : nodes_after n (a ++ y ∷ b) ≡ b
  pub from : nodes_from n (a ++ y ∷ b) ≡ y ∷ b
  pub to : nodes_to n (a ++ y ∷ b) ≡ a ++ y ∷ []

pub split_at : (n : ℕ) (a : List TokenNode) (y : TokenNode) (b : List TokenNode) → is_live n a ≡ false → y.number ≡ n → SplitAt n a y b
unfolding nodes_before nodes_after nodes_from nodes_to
split_at n [] y b d e =
    let t = eq-eqb y.number n e in
    record { before = cond-true (y.number == n) _ _ t; after = cond-true (y.number == n) _ _ t; from = cond-true (y.number == n) _ _ t; to = cond-true (y.number == n) _ _ t }
split_at n (x ∷ a) y b d e =
    let p = or_parts _ _ d in
    let s = split_at n a y b p.1 e in
    record {
      before = cond-false (x.number == n) _ _ p.0 ∙ ap (λ t. x ∷ t) s.before;
      after = cond-false (x.number == n) _ _ p.0 ∙ s.after;
      from = cond-false (x.number == n) _ _ p.0 ∙ s.from;
      to = cond-false (x.number == n) _ _ p.0 ∙ ap (λ t. x ∷ t) s.to;
    }

pub numbered_dead : (a : List TokenNode) (y : TokenNode) (b : List TokenNode) → IsNumbered (a ++ y ∷ b) → is_live y.number a ≡ false
numbered_dead a y b d =
    false_from_ne_true (is_live y.number a)
    (λ e. both_ways (is_live y.number (y ∷ b)) (numbered_apart a (y ∷ b) d y.number e) (or_left _ _ (eq-eqb y.number y.number refl)))

-- ---- reading from one node to the next

pub rest_first : (nodes : List TokenNode) → rest_from (first_of nodes) nodes ≡ nodes
unfolding nodes_from
rest_first [] = refl
rest_first (x ∷ xs) = cond-true (x.number == x.number) (x ∷ xs) (nodes_from x.number xs) (eq-eqb x.number x.number refl)

pub rest_after : (n : ℕ) (nodes : List TokenNode) → IsNumbered nodes → is_live n nodes ≡ true → rest_from (first_of (nodes_after n nodes)) nodes ≡ nodes_after n nodes
rest_after n nodes d l =
    let f = found n nodes l in
    subst (λ t. rest_from (first_of (nodes_after n nodes)) t ≡ nodes_after n nodes) (sym f.whole)
    (there (nodes_before n nodes) f.node (nodes_after n nodes) (subst IsNumbered f.whole d))
  where
    there : (a : List TokenNode) (y : TokenNode) (b : List TokenNode) → IsNumbered (a ++ y ∷ b) → rest_from (first_of b) (a ++ y ∷ b) ≡ b
    there a y [] d = refl
    there a y (z ∷ b) d =
        let e : a ++ y ∷ z ∷ b ≡ (a ++ y ∷ []) ++ z ∷ b = sym (append_assoc a (y ∷ []) (z ∷ b)) in
        ap (nodes_from z.number) e ∙ (split_at z.number (a ++ y ∷ []) z b (numbered_dead (a ++ y ∷ []) z b (subst IsNumbered e d)) refl).from

pub copies_step : (made after : List Token) (n : ℕ) (nodes : List TokenNode) (t : Token) → IsNumbered nodes → is_live n nodes ≡ true → token_of n nodes ≡ Some t
    → made ++ tokens (nodes_from n nodes) ≡ tokens nodes → after ≡ made ++ t ∷ [] → after ++ tokens (rest_from (first_of (nodes_after n nodes)) nodes) ≡ tokens nodes
copies_step made after n nodes t d l k e w =
    let f = found n nodes l in
    let same : f.node.token ≡ t = inner (sym (ap (option_map (λ (x : TokenNode). x.token)) f.is_node) ∙ k) in
    ap₂ (λ x y. x ++ tokens y) w (rest_after n nodes d l) ∙ append_assoc made (t ∷ []) (tokens (nodes_after n nodes))
    ∙ ap (λ x. made ++ x ∷ tokens (nodes_after n nodes)) (sym same) ∙ ap (λ x. made ++ tokens x) (sym f.from_there) ∙ e
  where
    inner : {a b : Token} → Some a ≡ Some b → a ≡ b
    inner h = cc

pub rest_shorter : (n : ℕ) (nodes : List TokenNode) → IsNumbered nodes → is_live n nodes ≡ true → length (rest_from (first_of (nodes_after n nodes)) nodes) < length (nodes_from n nodes)
rest_shorter n nodes d l =
    let f = found n nodes l in
    let a = ap length (rest_after n nodes d l) in
    let b = ap length f.from_there in
    omega (arith, a, b)

-- ---- tokens put in after a node

pub record IsPutting (n : ℕ) (all left : List Token) (old nodes : List TokenNode) : Type 0 where
  pub done : List Token
  pub numbers : List ℕ
  pub whole : all ≡ left ++ done
  pub new : AreNew numbers done old
  pub are : nodes ≡ nodes_to n old ++ (new_nodes numbers done ++ nodes_after n old)

pub putting_none : (n : ℕ) (all : List Token) (old : List TokenNode) → is_live n old ≡ true → IsPutting n all all old old
unfolding IsDistinct
putting_none n all old l = record {
  done = [];
  numbers = [];
  whole = sym (append-nil all);
  new = record { one_each = refl; distinct = tt; fresh = λ m h. absurd cc };
  are = whole_up n old l;
}

new_live : (m : ℕ) (numbers : List ℕ) (ts : List Token) → length numbers ≡ length ts → list_any (λ k. k == m) numbers ≡ is_live m (new_nodes numbers ts)
new_live m [] [] e = refl
new_live m [] (t ∷ ts) e = absurd (omega arith)
new_live m (n ∷ ns) [] e = absurd (omega arith)
new_live m (n ∷ ns) (t ∷ ts) e = ap (λ b. (n == m) || b) (new_live m ns ts (omega arith))

pub putting_one : (n k : ℕ) (all left more : List Token) (old nodes new : List TokenNode) (t : Token) → IsPutting n all more old nodes → more ≡ left ++ t ∷ [] → is_live n old ≡ true → IsNumbered old
    → (is_live k nodes ≡ true → ⊥) → new ≡ inserted (Some n) (new_node k t) nodes → IsPutting n all left old new
putting_one n k all left more old nodes new t p e l d fresh w =
    let f = found n old l in
    let a = nodes_before n old in
    let b = nodes_after n old in
    let mid = new_nodes p.numbers p.done in
    let is : nodes ≡ a ++ f.node ∷ (mid ++ b) = p.are ∙ ap (λ t. t ++ (mid ++ b)) f.up_there ∙ append_assoc a (f.node ∷ []) (mid ++ b) in
    let s = split_at n a f.node (mid ++ b) f.not_before f.number in
    let dead : is_live k nodes ≡ false = false_from_ne_true (is_live k nodes) fresh in
    let parts = dead_parts k (nodes_to n old) (mid ++ b) (subst (λ t. is_live k t ≡ false) p.are dead) in
    let ends = dead_parts k mid b parts.1 in
    let none : list_any (λ m. m == k) p.numbers ≡ false = new_live k p.numbers p.done p.new.one_each ∙ ends.0 in
    let old_dead : is_live k old ≡ false = ap (is_live k) (whole_up n old l) ∙ live_append k (nodes_to n old) b ∙ ap₂ (λ x y. x || y) parts.0 ends.1 in
    record {
      done = t ∷ p.done;
      numbers = k ∷ p.numbers;
      whole = p.whole ∙ ap (λ x. x ++ p.done) e ∙ append_assoc left (t ∷ []) p.done;
      new = record {
        one_each = (let q = p.new.one_each in omega arith);
        distinct = distinct_cons k p.numbers none p.new.distinct;
        fresh = λ m h. ⊎_elim
            (λ (g : (k == m) ≡ true). λ (z : is_live m old ≡ true). both_ways (is_live m old) (subst (λ i. is_live i old ≡ false) (eqb-true k m g) old_dead) z)
            (λ (g : list_any (λ i. i == m) p.numbers ≡ true). p.new.fresh m g)
            (or_cases _ _ h);
      };
      are = w ∙ ap₂ (λ x y. x ++ new_node k t ∷ y) (ap (nodes_to n) is ∙ s.to ∙ sym f.up_there) (ap (nodes_after n) is ∙ s.after);
    }

pub still_live : (n : ℕ) (all left : List Token) (old nodes : List TokenNode) → IsPutting n all left old nodes → is_live n old ≡ true → is_live n nodes ≡ true
still_live n all left old nodes p l =
    let f = found n old l in
    subst (λ t. is_live n t ≡ true) (sym p.are)
    (live_left n (nodes_to n old) (new_nodes p.numbers p.done ++ nodes_after n old)
    (subst (λ t. is_live n t ≡ true) (sym f.up_there) (live_right n (nodes_before n old) (f.node ∷ []) (or_left _ _ (eq-eqb f.node.number n f.number)))))

-- ---- a node taken out of a list with live partners

with_mates : (List TokenNode) → TokenNode → TokenNode
with_mates all x = record { number = x.number; token = x.token; partner = live_partner all x.partner }

mapped_before : (all : List TokenNode) (n : ℕ) (xs : List TokenNode) → nodes_before n (map (with_mates all) xs) ≡ map (with_mates all) (nodes_before n xs)
unfolding nodes_before with_mates
mapped_before all n [] = refl
mapped_before all n (x ∷ xs) =
    elim (x.number == n) as (λ b. cond b [] (with_mates all x ∷ nodes_before n (map (with_mates all) xs)) ≡ map (with_mates all) (cond b [] (x ∷ nodes_before n xs)))
    [ true ↦ refl | false ↦ ap (λ t. with_mates all x ∷ t) (mapped_before all n xs) ]

mapped_after : (all : List TokenNode) (n : ℕ) (xs : List TokenNode) → nodes_after n (map (with_mates all) xs) ≡ map (with_mates all) (nodes_after n xs)
unfolding nodes_after with_mates
mapped_after all n [] = refl
mapped_after all n (x ∷ xs) =
    elim (x.number == n) as (λ b. cond b (map (with_mates all) xs) (nodes_after n (map (with_mates all) xs)) ≡ map (with_mates all) (cond b xs (nodes_after n xs)))
    [ true ↦ refl | false ↦ mapped_after all n xs ]

mapped_live : (all : List TokenNode) (n : ℕ) (xs : List TokenNode) → is_live n (map (with_mates all) xs) ≡ is_live n xs
unfolding with_mates
mapped_live all n [] = refl
mapped_live all n (x ∷ xs) = ap (λ b. (x.number == n) || b) (mapped_live all n xs)

mapped_append : (all a b : List TokenNode) → map (with_mates all) (a ++ b) ≡ map (with_mates all) a ++ map (with_mates all) b
mapped_append all [] b = refl
mapped_append all (x ∷ a) b = ap (λ t. with_mates all x ∷ t) (mapped_append all a b)

settled_mapped : (xs : List TokenNode) → with_live_partners xs ≡ map (with_mates xs) xs
unfolding with_live_partners with_mates
settled_mapped xs = refl

mate_again : (all part other : List TokenNode) → ((n : ℕ) → is_live n part ≡ true → is_live n all ≡ true) → ((n : ℕ) → is_live n other ≡ is_live n part) → (o : Option ℕ)
    → live_partner other (live_partner all o) ≡ live_partner part o
mate_again all part other f g None = refl
mate_again all part other f g (Some m) =
    ⊎_elim
    (λ (e : is_live m part ≡ true).
    ap (live_partner other) (cond-true (is_live m all) (Some m) None (f m e)) ∙ ap (λ b. cond b (Some m) None) (g m))
    (λ (e : is_live m part ≡ false).
    ⊎_elim
    (λ (h : is_live m all ≡ true). ap (live_partner other) (cond-true (is_live m all) (Some m) None h) ∙ ap (λ b. cond b (Some m) None) (g m))
    (λ (h : is_live m all ≡ false). ap (live_partner other) (cond-false (is_live m all) (Some m) None h) ∙ sym (cond-false (is_live m part) (Some m) None e))
    (cases_Bool (is_live m all)))
    (cases_Bool (is_live m part))

mapped_again : (all part other xs : List TokenNode) → ((n : ℕ) → is_live n part ≡ true → is_live n all ≡ true) → ((n : ℕ) → is_live n other ≡ is_live n part)
    → map (with_mates other) (map (with_mates all) xs) ≡ map (with_mates part) xs
unfolding with_mates
mapped_again all part other [] f g = refl
mapped_again all part other (x ∷ xs) f g =
    ap₂ (λ p t. record { number = x.number; token = x.token; partner = p } ∷ t) (mate_again all part other f g x.partner) (mapped_again all part other xs f g)

pub erased_settled : (n : ℕ) (a : List TokenNode) (y : TokenNode) (b : List TokenNode) → is_live n a ≡ false → y.number ≡ n → erased n (with_live_partners (a ++ y ∷ b)) ≡ with_live_partners (a ++ b)
erased_settled n a y b d e =
    let all = a ++ y ∷ b in
    let s = split_at n a y b d e in
    let m = map (with_mates all) (a ++ b) in
    let left : nodes_before n (with_live_partners all) ++ nodes_after n (with_live_partners all) ≡ m =
    ap₂ (λ x y. x ++ y) (ap (nodes_before n) (settled_mapped all) ∙ mapped_before all n all ∙ ap (map (with_mates all)) s.before)
    (ap (nodes_after n) (settled_mapped all) ∙ mapped_after all n all ∙ ap (map (with_mates all)) s.after)
    ∙ sym (mapped_append all a b) in
    ap with_live_partners left ∙ settled_mapped m
    ∙ mapped_again all (a ++ b) m (a ++ b)
    (λ k l. ⊎_elim (λ (g : is_live k a ≡ true). live_left k a (y ∷ b) g) (λ (g : is_live k b ≡ true). live_right k a (y ∷ b) (or_right _ _ g)) (or_cases _ _ (sym (live_append k a b) ∙ l)))
    (λ k. mapped_live all k (a ++ b))
    ∙ sym (settled_mapped (a ++ b))

pub after_settled : (n : ℕ) (a : List TokenNode) (y z : TokenNode) (b : List TokenNode) → is_live n a ≡ false → y.number ≡ n → first_of (nodes_after n (with_live_partners (a ++ y ∷ z ∷ b))) ≡ Some z.number
unfolding with_mates
after_settled n a y z b d e =
    let all = a ++ y ∷ z ∷ b in
    ap first_of (ap (nodes_after n) (settled_mapped all) ∙ mapped_after all n all ∙ ap (map (with_mates all)) (split_at n a y (z ∷ b) d e).after)

-- ---- a run taken out

pub record IsErasing (from to at : ℕ) (old nodes : List TokenNode) : Type 0 where
  pub node : TokenNode
  pub rest : List TokenNode
  pub number : node.number ≡ at
  pub ends : last_or rest (Some node.number) ≡ Some to
  pub numbered : IsNumbered (nodes_before from old ++ node ∷ (rest ++ nodes_after to old))
  pub are : nodes ≡ with_live_partners (nodes_before from old ++ node ∷ (rest ++ nodes_after to old))

last_append : (a : List TokenNode) (y : TokenNode) (p : Option ℕ) → last_or (a ++ y ∷ []) p ≡ Some y.number
last_append [] y p = refl
last_append (x ∷ a) y p = last_append a y (Some x.number)

to_head : (n : ℕ) (x : TokenNode) (xs : List TokenNode) → nodes_to n (x ∷ xs) ≡ x ∷ cond (x.number == n) [] (nodes_to n xs)
unfolding nodes_to
to_head n x xs = elim (x.number == n) as (λ b. cond b (x ∷ []) (x ∷ nodes_to n xs) ≡ x ∷ cond b [] (nodes_to n xs)) [ true ↦ refl | false ↦ refl ]

pub after_append : (n : ℕ) (a b : List TokenNode) → is_live n a ≡ false → nodes_after n (a ++ b) ≡ nodes_after n b
unfolding nodes_after
after_append n [] b h = refl
after_append n (x ∷ a) b h = let p = or_parts _ _ h in cond-false (x.number == n) _ _ p.0 ∙ after_append n a b p.1

pub erasing_start : (from to : ℕ) (old : List TokenNode) → IsTokenList old → is_live from old ≡ true → is_live to (nodes_from from old) ≡ true → IsErasing from to from old old
erasing_start from to old l live order =
    let f = found from old live in
    let a = nodes_before from old in
    let c = f.node ∷ nodes_after from old in
    let there : is_live to c ≡ true = subst (λ t. is_live to t ≡ true) f.from_there order in
    let g = found to c there in
    let rest = cond (f.node.number == to) [] (nodes_to to (nodes_after from old)) in
    let head = to_head to f.node (nodes_after from old) in
    let dead : is_live to a ≡ false = false_from_ne_true (is_live to a) (λ e. both_ways (is_live to c) (numbered_apart a c (subst IsNumbered f.whole l.distinct) to e) there) in
    let after : nodes_after to old ≡ nodes_after to c = ap (nodes_after to) f.whole ∙ after_append to a c dead in
    let whole : old ≡ a ++ f.node ∷ (rest ++ nodes_after to old) =
    f.whole ∙ ap (λ t. a ++ t) (whole_up to c there ∙ ap₂ (λ x y. x ++ y) head (sym after)) in
    record {
      node = f.node;
      rest = rest;
      number = f.number;
      ends = sym (ap (λ t. last_or t None) head) ∙ ap (λ t. last_or t None) g.up_there ∙ last_append (nodes_before to c) g.node None ∙ ap Some g.number;
      numbered = subst IsNumbered whole l.distinct;
      are = sym (same_settled [] old [] l (fresh_none old)) ∙ ap with_live_partners whole;
    }

pub record Onward (from to : ℕ) (old : List TokenNode) (at : ℕ) (nodes : List TokenNode) : Type 0 where
  pub next : ℕ
  pub is_next : first_of (nodes_after at nodes) ≡ Some next
  pub then : IsErasing from to next old (erased at nodes)

numbered_less : (a : List TokenNode) (y : TokenNode) (b : List TokenNode) → IsNumbered (a ++ y ∷ b) → IsNumbered (a ++ b)
numbered_less a y b d = kept_numbered a (y ∷ []) b [] d (fresh_none (a ++ y ∷ b))

pub erasing_step : (from to at : ℕ) (old nodes : List TokenNode) → IsErasing from to at old nodes → (at ≡ to → ⊥) → Onward from to old at nodes
erasing_step from to at old nodes p ne = step p.rest refl
  where
    same : {i j : ℕ} → Some i ≡ Some j → i ≡ j
    same h = cc

    step : (rest : List TokenNode) → p.rest ≡ rest → Onward from to old at nodes
    step [] e = absurd (ne (sym p.number ∙ same (ap (λ t. last_or t (Some p.node.number)) (sym e) ∙ p.ends)))
    step (z ∷ rest) e =
        let d = subst (λ t. IsNumbered (nodes_before from old ++ p.node ∷ (t ++ nodes_after to old))) e p.numbered in
        let are = p.are ∙ ap (λ t. with_live_partners (nodes_before from old ++ p.node ∷ (t ++ nodes_after to old))) e in
        let dead = subst (λ n. is_live n (nodes_before from old) ≡ false) p.number (numbered_dead (nodes_before from old) p.node (z ∷ (rest ++ nodes_after to old)) d) in
        record {
          next = z.number;
          is_next = ap (λ t. first_of (nodes_after at t)) are ∙ after_settled at (nodes_before from old) p.node z (rest ++ nodes_after to old) dead p.number;
          then = record {
            node = z;
            rest = rest;
            number = refl;
            ends = ap (λ t. last_or t (Some p.node.number)) (sym e) ∙ p.ends;
            numbered = numbered_less (nodes_before from old) p.node (z ∷ (rest ++ nodes_after to old)) d;
            are = ap (erased at) are ∙ erased_settled at (nodes_before from old) p.node (z ∷ (rest ++ nodes_after to old)) dead p.number;
          };
        }

some_same : {i j : ℕ} → Some i ≡ Some j → i ≡ j
some_same h = cc

pub erasing_end : (from to : ℕ) (old nodes : List TokenNode) → IsErasing from to to old nodes → erased to nodes ≡ spliced from to [] old
erasing_end from to old nodes p = ends p.rest refl
  where
    ends : (rest : List TokenNode) → p.rest ≡ rest → erased to nodes ≡ with_live_partners (nodes_before from old ++ nodes_after to old)
    ends [] e =
        let d = subst (λ t. IsNumbered (nodes_before from old ++ p.node ∷ (t ++ nodes_after to old))) e p.numbered in
        let are = p.are ∙ ap (λ t. with_live_partners (nodes_before from old ++ p.node ∷ (t ++ nodes_after to old))) e in
        let dead = subst (λ n. is_live n (nodes_before from old) ≡ false) p.number (numbered_dead (nodes_before from old) p.node (nodes_after to old) d) in
        ap (erased to) are ∙ erased_settled to (nodes_before from old) p.node (nodes_after to old) dead p.number
    ends (z ∷ rest) e = absurd (
        let d = subst (λ t. IsNumbered (nodes_before from old ++ p.node ∷ (t ++ nodes_after to old))) e p.numbered in
        let r = last_live_or rest z.number in
        let m : r.0 ≡ p.node.number = some_same (sym r.1 ∙ ap (λ t. last_or t (Some p.node.number)) (sym e) ∙ p.ends) ∙ sym p.number in
        let lives : is_live p.node.number (z ∷ (rest ++ nodes_after to old)) ≡ true = subst (λ n. is_live n (z ∷ (rest ++ nodes_after to old)) ≡ true) m
        (⊎_elim (λ (g : is_live r.0 rest ≡ true). or_right _ _ (live_left r.0 rest (nodes_after to old) g)) (λ (g : (z.number == r.0) ≡ true). or_left _ _ g) (or_cases _ _ r.2)) in
        both_ways (is_live p.node.number (z ∷ (rest ++ nodes_after to old))) (numbered_head p.node (z ∷ (rest ++ nodes_after to old)) (numbered_right (nodes_before from old) (p.node ∷ (z ∷ (rest ++ nodes_after to old))) d)) lives
        )

pub erasing_live : (from to at : ℕ) (old nodes : List TokenNode) → IsErasing from to at old nodes → is_live at nodes ≡ true
erasing_live from to at old nodes p =
    let xs = nodes_before from old ++ p.node ∷ (p.rest ++ nodes_after to old) in
    subst (λ t. is_live at t ≡ true) (sym p.are)
    (live_settled xs at ∙ live_right at (nodes_before from old) (p.node ∷ (p.rest ++ nodes_after to old)) (or_left _ _ (eq-eqb p.node.number at p.number)))

pub erased_shorter : (from to at : ℕ) (old nodes : List TokenNode) → IsErasing from to at old nodes → length (erased at nodes) < length nodes
unfolding with_live_partners
erased_shorter from to at old nodes p =
    let l = erasing_live from to at old nodes p in
    let f = found at nodes l in
    let a = ap length f.whole ∙ length-append (nodes_before at nodes) (f.node ∷ nodes_after at nodes) in
    let b = length-append (nodes_before at nodes) (nodes_after at nodes) in
    let mates : TokenNode → TokenNode = λ x. record { number = x.number; token = x.token; partner = live_partner (nodes_before at nodes ++ nodes_after at nodes) x.partner } in
    let c = length-map (nodes_before at nodes ++ nodes_after at nodes) mates in
    omega (arith, a, b, c)

-- ---- tests of nodes

pub ne_numbers : (a b : ℕ) (t : Bool) → t ≡ not (a == b) → t ≡ true → a ≡ b → ⊥
ne_numbers a b t e h k = both_ways (a == b) (not-true (a == b) (sym e ∙ h)) (eq-eqb a b k)

pub eq_numbers : (a b : ℕ) (t : Bool) → t ≡ not (a == b) → t ≡ false → a ≡ b
eq_numbers a b t e h = ⊎_elim (λ (k : (a == b) ≡ true). eqb-true a b k) (λ (k : (a == b) ≡ false). absurd (clash t (a == b) e h k)) (cases_Bool (a == b))
  where
    clash : (t u : Bool) → t ≡ not u → t ≡ false → u ≡ false → ⊥
    clash t true e h k = cc
    clash true false e h k = cc
    clash false false e h k = cc

-- ---- a run replaced

to_append : (n : ℕ) (a b : List TokenNode) → is_live n a ≡ false → nodes_to n (a ++ b) ≡ a ++ nodes_to n b
unfolding nodes_to
to_append n [] b h = refl
to_append n (x ∷ a) b h = let p = or_parts _ _ h in cond-false (x.number == n) _ _ p.0 ∙ ap (λ t. x ∷ t) (to_append n a b p.1)

-- what stands before a run, its first node, and the others of it
pub record RunParts (from to : ℕ) (old : List TokenNode) : Type 0 where
  pub node : TokenNode
  pub rest : List TokenNode
  pub number : node.number ≡ from
  pub not_before : is_live from (nodes_before from old) ≡ false
  pub whole : nodes_to to old ≡ nodes_before from old ++ node ∷ rest
  pub last : is_live to (node ∷ rest) ≡ true

pub run_parts : (from to : ℕ) (old : List TokenNode) → IsNumbered old → is_live from old ≡ true → is_live to (nodes_from from old) ≡ true → RunParts from to old
run_parts from to old d live order =
    let f = found from old live in
    let a = nodes_before from old in
    let c = f.node ∷ nodes_after from old in
    let there : is_live to c ≡ true = subst (λ t. is_live to t ≡ true) f.from_there order in
    let g = found to c there in
    let rest = cond (f.node.number == to) [] (nodes_to to (nodes_after from old)) in
    let head = to_head to f.node (nodes_after from old) in
    let dead : is_live to a ≡ false = false_from_ne_true (is_live to a) (λ e. both_ways (is_live to c) (numbered_apart a c (subst IsNumbered f.whole d) to e) there) in
    record {
      node = f.node;
      rest = rest;
      number = f.number;
      not_before = f.not_before;
      whole = ap (nodes_to to) f.whole ∙ to_append to a c dead ∙ ap (λ t. a ++ t) head;
      last = subst (λ t. is_live to t ≡ true) (sym g.up_there ∙ head) (live_right to (nodes_before to c) (g.node ∷ []) (or_left _ _ (eq-eqb g.node.number to g.number)));
    }

pub record IsMid (from to : ℕ) (old mid : List TokenNode) (replacement : List TokenNode) : Type 0 where
  pub live : is_live from mid ≡ true
  pub order : is_live to (nodes_from from mid) ≡ true
  pub spliced_is : spliced from to [] mid ≡ spliced from to replacement old

pub is_mid : (from to : ℕ) (old mid news : List TokenNode) → IsNumbered old → is_live from old ≡ true → is_live to old ≡ true → is_live to (nodes_from from old) ≡ true
    → mid ≡ nodes_to to old ++ (news ++ nodes_after to old) → IsMid from to old mid news
is_mid from to old mid news d live to_live order e =
    let r = run_parts from to old d live order in
    let g = found to old to_live in
    let a = nodes_before from old in
    let more = news ++ nodes_after to old in
    let is : mid ≡ a ++ r.node ∷ (r.rest ++ more) = e ∙ ap (λ t. t ++ more) r.whole ∙ append_assoc a (r.node ∷ r.rest) more in
    let s = split_at from a r.node (r.rest ++ more) r.not_before r.number in
    let other : mid ≡ nodes_before to old ++ g.node ∷ more = e ∙ ap (λ t. t ++ more) g.up_there ∙ append_assoc (nodes_before to old) (g.node ∷ []) more in
    let u = split_at to (nodes_before to old) g.node more g.not_before g.number in
    record {
      live = subst (λ t. is_live from t ≡ true) (sym is) (live_right from a (r.node ∷ (r.rest ++ more)) (or_left _ _ (eq-eqb r.node.number from r.number)));
      order = subst (λ t. is_live to t ≡ true) (sym (ap (nodes_from from) is ∙ s.from)) (live_left to (r.node ∷ r.rest) more r.last);
      spliced_is = ap₂ (λ x y. with_live_partners (x ++ y)) (ap (nodes_before from) is ∙ s.before) (ap (nodes_after to) other ∙ u.after);
    }
