-- What goes with a word, and what stands behind it.
use Rattle.std.proofs.Common.{◌≡◌, ℕ, ◌<◌, ◌≤◌, arith, List, [], ◌∷◌, ◌++◌, Option, Some, None, IfSome, IsSome, IsTrue, MatchOption, Bool, true, false, not, ◌&&◌, ◌||◌, refl, sym, ap, ap₂, ◌∙◌, subst, append_assoc, append-nil, codes, length, length-append, ⊎_elim, ◌==◌}
use Rattle.std.specs.List.{AllByRecursion}
use Rattle.std.specs.Option.{option_map}
use Rattle.std.proofs.lemmas.Bool.{and_from, both_ways, cond-true, cond-false, eq-eqb, false_from_ne_true, not_from_false, or_cases, or_left, or_right, or_parts}
use Rattle.cx_tokens.specs.declared.token.Token.{Token}
use Rattle.cx_tokens.specs.Nodes.{TokenNode, first_of, is_live, node_of, nodes_after, nodes_before, nodes_from, partner_in, partner_of, token_of}
use Rattle.cx_tokens.specs.Brackets.{IsPaired, is_punctuator, opens}
use Rattle.cx_tokens.specs.Simplified.{attribute_words, begins_round, is_string, is_word_of, lone_words}
use Rattle.cx_tokens.specs.Shapes.Links.{rest_from}
use Rattle.cx_tokens.specs.Shapes.Sweeping.{AfterWord, HasNoString, IsGone, IsJoined, IsNextString, IsPlainAt, IsSkipped, IsStaying, Plain, StringOf, Within, begins_string, node_stays, state_after, state_after_all, state_at, staying_nodes}
use Rattle.cx_tokens.proofs.LinkRuns.{after_append, numbered_dead, rest_after, split_at}
use Rattle.cx_tokens.proofs.NodeLaws.{IsNumbered, found, live_left, live_right, numbered_apart}
use Rattle.cx_tokens.proofs.PartLaws.{node_at}
use Rattle.cx_tokens.proofs.PlaceLaws.{from_itself}
use Rattle.cx_tokens.proofs.SimplifyLaws.{at_opening, behind_entered}
use Rattle.cx_tokens.proofs.SweepLaws.{kept_append, kept_none, state_append}
use Rattle.cx_tokens.proofs.SweepSteps.{first_kept, plain_more, plain_run, rest_kept}
use Rattle.cx_tokens.proofs.SweptPairs.{HasCloser, closes_after, have_closers}
use Rattle.cx_tokens.proofs.UnadornedLaws.{after_within, ends_within, kept_attribute, lone_no_attribute, skip_to, state_round}

cons_same : {x y : TokenNode} {xs ys : List TokenNode} → x ∷ xs ≡ y ∷ ys → (x ≡ y) × (xs ≡ ys)
cons_same e = (cc, cc)

some_same : {i j : ℕ} → Some i ≡ Some j → i ≡ j
some_same e = cc

token_same : (n : ℕ) (nodes : List TokenNode) (l : is_live n nodes ≡ true) (t : Token) → token_of n nodes ≡ Some t → t ≡ (found n nodes l).node.token
token_same n nodes l t e = same (sym (ap (option_map (λ (y : TokenNode). y.token)) (found n nodes l).is_node) ∙ e)
  where
    same : {a b : Token} → Some a ≡ Some b → b ≡ a
    same e = cc

-- ---- one node

pub staying_is : (n : ℕ) (nodes : List TokenNode) (t : Token) → is_live n nodes ≡ true → token_of n nodes ≡ Some t → is_word_of attribute_words t ≡ false → is_word_of lone_words t ≡ false → IsStaying nodes n
unfolding node_stays
staying_is n nodes t l e a b =
    let f = found n nodes l in
    let s = token_same n nodes l t e in
    record {
      node = f.node;
      here = f.from_there;
      stays = and_from _ _ (not_from_false _ (subst (λ u. is_word_of attribute_words u ≡ false) s a)) (not_from_false _ (subst (λ u. is_word_of lone_words u ≡ false) s b));
    }

gone_one : (n : ℕ) (nodes : List TokenNode) (l : is_live n nodes ≡ true) → staying_nodes Plain ((found n nodes l).node ∷ []) ≡ [] → IsPlainAt (state_after_all Plain ((found n nodes l).node ∷ [])) (nodes_after n nodes) → IsGone nodes n n
gone_one n nodes l e h =
    let f = found n nodes l in
    record {
      gone = f.node ∷ [];
      rest = nodes_after n nodes;
      whole = f.from_there;
      after = refl;
      order = from_itself n nodes l;
      some = omega arith;
      none_stay = e;
      plain = h;
    }

no_stay : (x : TokenNode) → node_stays Plain x ≡ false → staying_nodes Plain (x ∷ []) ≡ []
unfolding state_at
no_stay x h = kept_none Plain x h

lone_goes : (x : TokenNode) → is_word_of lone_words x.token ≡ true → node_stays Plain x ≡ false
unfolding node_stays
lone_goes x h = off (is_word_of attribute_words x.token) (is_word_of lone_words x.token) h
  where
    off : (a b : Bool) → b ≡ true → (not a && not b) ≡ false
    off true true h = refl
    off false true h = refl
    off true false h = refl
    off false false h = absurd cc

word_goes : (x : TokenNode) → is_word_of attribute_words x.token ≡ true → node_stays Plain x ≡ false
unfolding node_stays
word_goes x h = off (is_word_of attribute_words x.token) (is_word_of lone_words x.token) h
  where
    off : (a b : Bool) → a ≡ true → (not a && not b) ≡ false
    off true b h = refl
    off false b h = absurd cc

lone_state : (x : TokenNode) → is_word_of attribute_words x.token ≡ false → state_after_all Plain (x ∷ []) ≡ Plain
unfolding state_after_all state_after state_at
lone_state x h = cond-false (is_word_of attribute_words x.token) AfterWord Plain h

word_state : (x : TokenNode) → is_word_of attribute_words x.token ≡ true → state_after_all Plain (x ∷ []) ≡ AfterWord
unfolding state_after_all state_after state_at
word_state x h = cond-true (is_word_of attribute_words x.token) AfterWord Plain h

pub gone_lone : (n : ℕ) (nodes : List TokenNode) (t : Token) → is_live n nodes ≡ true → token_of n nodes ≡ Some t → is_word_of lone_words t ≡ true → IsGone nodes n n
gone_lone n nodes t l e h =
    let x = (found n nodes l).node in
    let k = subst (λ u. is_word_of lone_words u ≡ true) (token_same n nodes l t e) h in
    gone_one n nodes l (no_stay x (lone_goes x k)) (subst (λ s. IsPlainAt s (nodes_after n nodes)) (sym (lone_state x (lone_no_attribute x k))) tt)

-- a word of an attribute
abbrev pub IsWordAt : ℕ → List TokenNode → Type 0
IsWordAt n nodes = (t : Token) → token_of n nodes ≡ Some t → is_word_of attribute_words t ≡ true

word_at : (n : ℕ) (nodes : List TokenNode) (l : is_live n nodes ≡ true) → IsWordAt n nodes → is_word_of attribute_words (found n nodes l).node.token ≡ true
word_at n nodes l h = h (found n nodes l).node.token (ap (option_map (λ (y : TokenNode). y.token)) (found n nodes l).is_node)

gone_bare : (n : ℕ) (nodes : List TokenNode) → is_live n nodes ≡ true → IsWordAt n nodes → begins_round (nodes_after n nodes) ≡ false → IsGone nodes n n
gone_bare n nodes l h b =
    let x = (found n nodes l).node in
    let k = word_at n nodes l h in
    gone_one n nodes l (no_stay x (word_goes x k)) (subst (λ s. IsPlainAt s (nodes_after n nodes)) (sym (word_state x k)) b)

pub gone_last : (n : ℕ) (nodes : List TokenNode) (o : Option ℕ) → is_live n nodes ≡ true → IsWordAt n nodes → o ≡ None → o ≡ first_of (nodes_after n nodes) → IsGone nodes n n
gone_last n nodes o l h e f = gone_bare n nodes l h (none (nodes_after n nodes) (sym f ∙ e))
  where
    none : (xs : List TokenNode) → first_of xs ≡ None → begins_round xs ≡ false
    none [] e = refl
    none (x ∷ xs) e = absurd cc

-- the node after another
record After (n m : ℕ) (nodes : List TokenNode) (l : is_live n nodes ≡ true) : Type 0 where
  bracket : TokenNode
  others : List TokenNode
  are : nodes_after n nodes ≡ bracket ∷ others
  number : bracket.number ≡ m
  is_node : node_of m nodes ≡ Some bracket
  from : nodes_from m nodes ≡ bracket ∷ others
  whole : nodes ≡ (nodes_before n nodes ++ (found n nodes l).node ∷ bracket ∷ []) ++ others

after_at : (n m : ℕ) (nodes : List TokenNode) (o : Option ℕ) (l : is_live n nodes ≡ true) → IsNumbered nodes → o ≡ Some m → o ≡ first_of (nodes_after n nodes) → After n m nodes l
after_at n m nodes o l d e f = at_rest (nodes_after n nodes) refl
  where
    at_rest : (rest : List TokenNode) → nodes_after n nodes ≡ rest → After n m nodes l
    at_rest [] k = absurd (let a = sym e ∙ f ∙ ap first_of k in cc)
    at_rest (y ∷ rest) k =
        let g = found n nodes l in
        let a = nodes_before n nodes in
        let number : y.number ≡ m = sym (some_same (sym e ∙ f ∙ ap first_of k)) in
        let split : nodes ≡ (a ++ g.node ∷ []) ++ y ∷ rest = g.whole ∙ ap (λ t. a ++ g.node ∷ t) k ∙ sym (append_assoc a (g.node ∷ []) (y ∷ rest)) in
        let numbered = subst IsNumbered split d in
        let u = split_at m (a ++ g.node ∷ []) y rest (subst (λ i. is_live i (a ++ g.node ∷ []) ≡ false) number (numbered_dead (a ++ g.node ∷ []) y rest numbered)) number in
        record {
          bracket = y;
          others = rest;
          are = k;
          number = number;
          is_node = ap (node_of m) split ∙ subst (λ i. node_of i ((a ++ g.node ∷ []) ++ y ∷ rest) ≡ Some y) number (node_at (a ++ g.node ∷ []) y rest numbered);
          from = ap (nodes_from m) split ∙ u.from;
          whole = g.whole ∙ ap (λ t. a ++ g.node ∷ t) k ∙ sym (append_assoc a (g.node ∷ y ∷ []) rest);
        }

pub gone_other : (n m : ℕ) (nodes : List TokenNode) (o : Option ℕ) (t : Token) → is_live n nodes ≡ true → IsNumbered nodes → IsWordAt n nodes → o ≡ Some m → o ≡ first_of (nodes_after n nodes) → token_of m nodes ≡ Some t
    → is_punctuator (codes "(") t ≡ false → IsGone nodes n n
gone_other n m nodes o t l d h e f k b =
    let a = after_at n m nodes o l d e f in
    let s : t ≡ a.bracket.token = same (sym (ap (option_map (λ (y : TokenNode). y.token)) a.is_node) ∙ k) in
    gone_bare n nodes l h (subst (λ xs. begins_round xs ≡ false) (sym a.are) (subst (λ u. is_punctuator (codes "(") u ≡ false) s b))
  where
    same : {a b : Token} → Some a ≡ Some b → b ≡ a
    same e = cc

skip_state : (n : ℕ) (inner : List TokenNode) (b : TokenNode) → is_live n inner ≡ false → b.number ≡ n → state_after_all (Within n) (inner ++ b ∷ []) ≡ Plain
unfolding state_after_all state_at
skip_state n [] b l e = ends_within n b (eq-eqb b.number n e)
skip_state n (x ∷ inner) b l e =
    let p = or_parts _ _ l in ap (λ s. state_after_all s (inner ++ b ∷ [])) (after_within n x p.0) ∙ skip_state n inner b p.1 e

all_have : (front : List TokenNode) (x : TokenNode) (back : List TokenNode) → AllByRecursion HasCloser (front ++ x ∷ back) → HasCloser x
all_have [] x back h = h.0
all_have (y ∷ front) x back h = all_have front x back h.1

closer_at : (n m : ℕ) (nodes : List TokenNode) (l : is_live n nodes ≡ true) (a : After n m nodes l) → IsPaired nodes → IsNumbered nodes → HasCloser a.bracket
closer_at n m nodes l a p d =
    let g = found n nodes l in
    all_have (nodes_before n nodes ++ g.node ∷ []) a.bracket a.others
    (subst (AllByRecursion HasCloser) (a.whole ∙ append_assoc (nodes_before n nodes) (g.node ∷ a.bracket ∷ []) a.others ∙ sym (append_assoc (nodes_before n nodes) (g.node ∷ []) (a.bracket ∷ a.others))) (have_closers nodes p d))

pub no_partner : (n m : ℕ) (nodes : List TokenNode) (o q : Option ℕ) (t : Token) → is_live n nodes ≡ true → IsNumbered nodes → IsPaired nodes → o ≡ Some m → o ≡ first_of (nodes_after n nodes) → token_of m nodes ≡ Some t
    → is_punctuator (codes "(") t ≡ true → q ≡ None → q ≡ partner_of m nodes → ⊥
no_partner n m nodes o q t l d p e f k b z w =
    let a = after_at n m nodes o l d e f in
    let s : t ≡ a.bracket.token = same (sym (ap (option_map (λ (y : TokenNode). y.token)) a.is_node) ∙ k) in
    let c = closer_at n m nodes l a p d (subst (λ u. is_punctuator (codes "(") u ≡ true) s b) in
    let r = sym z ∙ w ∙ ap partner_in a.is_node ∙ c.1 in cc
  where
    same : {a b : Token} → Some a ≡ Some b → b ≡ a
    same e = cc

round_opens : (t : Token) → is_punctuator (codes "(") t ≡ true → opens t ≡ true
unfolding opens
round_opens t h = or_left _ _ h

none_of_none : staying_nodes Plain [] ≡ []
unfolding staying_nodes
none_of_none = refl

pub gone_attribute : (n m k : ℕ) (nodes : List TokenNode) (o q : Option ℕ) (t : Token) → is_live n nodes ≡ true → IsNumbered nodes → IsPaired nodes → IsWordAt n nodes → o ≡ Some m → o ≡ first_of (nodes_after n nodes)
    → token_of m nodes ≡ Some t → is_punctuator (codes "(") t ≡ true → q ≡ Some k → q ≡ partner_of m nodes → IsGone nodes n k
gone_attribute n m k nodes o q t l d p h e f tok b z w =
    let a = after_at n m nodes o l d e f in
    let g = found n nodes l in
    let x = g.node in
    let y = a.bracket in
    let s : t ≡ y.token = same (sym (ap (option_map (λ (v : TokenNode). v.token)) a.is_node) ∙ tok) in
    let round = subst (λ u. is_punctuator (codes "(") u ≡ true) s b in
    let c = closer_at n m nodes l a p d round in
    let partner : partner_of m nodes ≡ Some k = sym w ∙ z in
    let its : y.partner ≡ Some k = sym (ap partner_in a.is_node) ∙ partner in
    let other : (y.number == k) ≡ false = subst (λ i. (y.number == i) ≡ false) (some_same (sym c.1 ∙ its)) c.2 in
    let opening = subst (λ v. IfSome v (λ u. IsTrue (opens u.token))) (sym a.is_node) (round_opens y.token round) in
    let after : is_live k (y ∷ a.others) ≡ true = subst (λ v. is_live k v ≡ true) a.from (closes_after nodes m k p opening partner) in
    let lives : is_live k a.others ≡ true = ⊎_elim (λ (v : (y.number == k) ≡ true). absurd (both_ways (y.number == k) other v)) (λ (v : is_live k a.others ≡ true). v) (or_cases _ _ after) in
    let r = found k a.others lives in
    let inner = nodes_before k a.others in
    let rest = nodes_after k a.others in
    let front = nodes_before n nodes ++ x ∷ y ∷ [] in
    let dead : is_live k front ≡ false = false_from_ne_true (is_live k front) (λ v. both_ways (is_live k a.others) (numbered_apart front a.others (subst IsNumbered a.whole d) k v) lives) in
    let word = word_at n nodes l h in
    let skips : is_live k (y ∷ inner) ≡ false = either (y.number == k) (is_live k inner) other r.not_before in
    let gone = x ∷ y ∷ (inner ++ r.node ∷ []) in
    let there = at_opening y (Some k) round its in
    record {
      gone = gone;
      rest = rest;
      whole = g.from_there ∙ ap (λ v. x ∷ v) (a.are ∙ ap (λ v. y ∷ v) (r.whole ∙ sym (append_assoc inner (r.node ∷ []) rest)));
      after = ap (nodes_after k) a.whole ∙ after_append k front a.others dead;
      order = subst (λ v. is_live k v ≡ true) (sym (g.from_there ∙ ap (λ v. x ∷ v) a.are)) (or_right _ _ after);
      some = omega arith;
      none_stay = kept_attribute x (y ∷ (inner ++ r.node ∷ [])) word ∙ behind_entered y (inner ++ r.node ∷ []) (Within k) there ∙ skip_to k (y ∷ inner) r.node [] skips r.number ∙ none_of_none;
      plain = subst (λ v. IsPlainAt v rest)
          (sym (state_append Plain (x ∷ []) (y ∷ (inner ++ r.node ∷ [])) ∙ ap (λ v. state_after_all v (y ∷ (inner ++ r.node ∷ []))) (word_state x word) ∙ state_round k y (inner ++ r.node ∷ []) round its other ∙ skip_state k inner r.node r.not_before r.number))
          tt;
    }
  where
    same : {a b : Token} → Some a ≡ Some b → b ≡ a
    same e = cc

    either : (a b : Bool) → a ≡ false → b ≡ false → (a || b) ≡ false
    either false false h k = refl
    either true b h k = absurd cc
    either false true h k = absurd cc

-- ---- what stands behind a node

pub skip_start : (n : ℕ) (nodes : List TokenNode) (next : Option ℕ) → next ≡ first_of (nodes_after n nodes) → IsSkipped nodes n next
unfolding staying_nodes state_after_all
skip_start n nodes next e = record { gone = []; rest = nodes_after n nodes; whole = refl; none_stay = refl; plain = tt; at_is = e }

rest_kept_run : (gone run left : List TokenNode) → 0 < length run → staying_nodes Plain gone ≡ [] → IsPlainAt (state_after_all Plain gone) (run ++ left) → staying_nodes Plain (gone ++ run) ≡ staying_nodes Plain run
rest_kept_run gone run left l e h = kept_append Plain gone run ∙ ap₂ (λ x y. x ++ y) e (plain_run (state_after_all Plain gone) run left l h)

-- the node at a link, behind what is skipped
record Skipped (n m : ℕ) (nodes : List TokenNode) (next : Option ℕ) (p : IsSkipped nodes n next) : Type 0 where
  node : TokenNode
  are : p.rest ≡ node ∷ nodes_after m nodes
  number : node.number ≡ m
  from : nodes_from m nodes ≡ p.rest
  live : is_live m nodes ≡ true
  is_node : node_of m nodes ≡ Some node

skipped_at : (n m : ℕ) (nodes : List TokenNode) (next : Option ℕ) → is_live n nodes ≡ true → IsNumbered nodes → next ≡ Some m → (p : IsSkipped nodes n next) → Skipped n m nodes next p
skipped_at n m nodes next l d e p = at_rest p.rest refl
  where
    at_rest : (rest : List TokenNode) → p.rest ≡ rest → Skipped n m nodes next p
    at_rest [] k = absurd (let a = sym e ∙ p.at_is ∙ ap first_of k in cc)
    at_rest (y ∷ rest) k =
        let g = found n nodes l in
        let a = nodes_before n nodes in
        let front = (a ++ g.node ∷ []) ++ p.gone in
        let number : y.number ≡ m = sym (some_same (sym e ∙ p.at_is ∙ ap first_of k)) in
        let split : nodes ≡ front ++ y ∷ rest =
        g.whole ∙ sym (append_assoc a (g.node ∷ []) (nodes_after n nodes)) ∙ ap (λ t. (a ++ g.node ∷ []) ++ t) (p.whole ∙ ap (λ t. p.gone ++ t) k) ∙ sym (append_assoc (a ++ g.node ∷ []) p.gone (y ∷ rest)) in
        let numbered = subst IsNumbered split d in
        let u = split_at m front y rest (subst (λ i. is_live i front ≡ false) number (numbered_dead front y rest numbered)) number in
        record {
          node = y;
          are = k ∙ ap (λ t. y ∷ t) (sym (ap (nodes_after m) split ∙ u.after));
          number = number;
          from = ap (nodes_from m) split ∙ u.from ∙ sym k;
          live = subst (λ t. is_live m t ≡ true) (sym split) (live_right m front (y ∷ rest) (or_left _ _ (eq-eqb y.number m number)));
          is_node = ap (node_of m) split ∙ subst (λ i. node_of i (front ++ y ∷ rest) ≡ Some y) number (node_at front y rest numbered);
        }

pub skip_live : (n m : ℕ) (nodes : List TokenNode) (next : Option ℕ) → is_live n nodes ≡ true → IsNumbered nodes → next ≡ Some m → IsSkipped nodes n next → is_live m nodes ≡ true
skip_live n m nodes next l d e p = (skipped_at n m nodes next l d e p).live

pub skip_more : (n m last : ℕ) (nodes : List TokenNode) (next later : Option ℕ) → is_live n nodes ≡ true → IsNumbered nodes → next ≡ Some m → IsSkipped nodes n next → IsGone nodes m last → later ≡ first_of (nodes_after last nodes) → IsSkipped nodes n later
skip_more n m last nodes next later l d e p g f =
    let s = skipped_at n m nodes next l d e p in
    let rest : p.rest ≡ g.gone ++ g.rest = sym s.from ∙ g.whole in
    let here = subst (λ t. IsPlainAt (state_after_all Plain p.gone) t) rest p.plain in
    record {
      gone = p.gone ++ g.gone;
      rest = g.rest;
      whole = p.whole ∙ ap (λ t. p.gone ++ t) rest ∙ sym (append_assoc p.gone g.gone g.rest);
      none_stay = rest_kept_run p.gone g.gone g.rest g.some p.none_stay here ∙ g.none_stay;
      plain = plain_more p.gone g.gone g.rest g.some here g.plain;
      at_is = f ∙ ap first_of g.after;
    }

live_from : (n m : ℕ) (nodes : List TokenNode) → is_live n nodes ≡ true → is_live m (nodes_from n nodes) ≡ true → is_live m nodes ≡ true
live_from n m nodes l k =
    let f = found n nodes l in
    subst (λ t. is_live m t ≡ true) (sym f.whole) (live_right m (nodes_before n nodes) (f.node ∷ nodes_after n nodes) (subst (λ t. is_live m t ≡ true) f.from_there k))

pub gone_live : (m last : ℕ) (nodes : List TokenNode) → is_live m nodes ≡ true → IsGone nodes m last → is_live last nodes ≡ true
gone_live m last nodes l g = live_from m last nodes l g.order

-- less is left behind what goes
pub gone_less : (m last : ℕ) (nodes : List TokenNode) (later : Option ℕ) → is_live m nodes ≡ true → IsNumbered nodes → IsGone nodes m last → later ≡ first_of (nodes_after last nodes)
    → length (rest_from later nodes) < length (nodes_from m nodes)
gone_less m last nodes later l d g f =
    let a = ap length g.whole ∙ length-append g.gone g.rest in
    let b = ap (λ o. length (rest_from o nodes)) f ∙ ap length (rest_after last nodes d (gone_live m last nodes l g) ∙ g.after) in
    let s = g.some in omega (arith, a, b, s)

pub skip_end : (n : ℕ) (nodes : List TokenNode) (next : Option ℕ) → next ≡ None → IsSkipped nodes n next → HasNoString nodes n
skip_end n nodes next e p = at_rest p.rest refl
  where
    at_rest : (rest : List TokenNode) → p.rest ≡ rest → HasNoString nodes n
    at_rest (y ∷ rest) k = absurd (let a = sym e ∙ p.at_is ∙ ap first_of k in cc)
    at_rest [] k = ap (λ t. begins_string (staying_nodes Plain t)) (p.whole ∙ ap (λ t. p.gone ++ t) k ∙ append-nil p.gone) ∙ ap begins_string p.none_stay

pub skip_stop : (n m : ℕ) (nodes : List TokenNode) (next r : Option ℕ) → is_live n nodes ≡ true → IsNumbered nodes → next ≡ Some m → IsSkipped nodes n next → IsStaying nodes m → StringOf nodes m r
    → MatchOption r (HasNoString nodes n) (IsNextString nodes n)
skip_stop n m nodes next None l d e p t s =
    let k = skipped_at n m nodes next l d e p in
    let same : t.node ≡ k.node = (cons_same (sym t.here ∙ k.from ∙ k.are)).0 in
    let stays = subst (λ y. node_stays Plain y ≡ true) same t.stays in
    ap (λ u. begins_string (staying_nodes Plain u)) p.whole ∙ ap begins_string (rest_kept p.gone p.rest p.none_stay p.plain ∙ ap (staying_nodes Plain) k.are ∙ first_kept k.node (nodes_after m nodes) stays)
    ∙ s k.node.token (ap (option_map (λ (y : TokenNode). y.token)) k.is_node)
skip_stop n m nodes next (Some i) l d e p t s =
    let k = skipped_at n m nodes next l d e p in
    let token : s.1.0 ≡ k.node.token = same (sym (ap (option_map (λ (y : TokenNode). y.token)) k.is_node) ∙ s.1.1) in
    subst (IsNextString nodes n) (sym s.0)
    (record {
      gone = p.gone;
      string = k.node;
      whole = p.whole ∙ ap (λ u. p.gone ++ u) k.are;
      number_is = k.number;
      none_stay = p.none_stay;
      plain = subst (λ u. IsPlainAt (state_after_all Plain p.gone) u) k.are p.plain;
      is_string = subst (λ u. is_string u.kind ≡ true) token s.1.2;
    })
  where
    same : {a b : Token} → Some a ≡ Some b → b ≡ a
    same e = cc

-- the next string is a node behind
pub next_live : (n m : ℕ) (nodes : List TokenNode) → is_live n nodes ≡ true → IsNextString nodes n m → is_live m nodes ≡ true
next_live n m nodes l p =
    let f = found n nodes l in
    subst (λ t. is_live m t ≡ true) (sym f.whole)
    (live_right m (nodes_before n nodes) (f.node ∷ nodes_after n nodes)
    (or_right _ _ (subst (λ t. is_live m t ≡ true) (sym p.whole) (live_right m p.gone (p.string ∷ nodes_after m nodes) (or_left _ _ (eq-eqb p.string.number m p.number_is))))))

pub next_less : (n m : ℕ) (nodes : List TokenNode) (at : Option ℕ) → is_live n nodes ≡ true → IsNumbered nodes → IsNextString nodes n m → length (nodes_from m nodes) ≤ length (nodes_after n nodes)
next_less n m nodes at l d p =
    let f = found m nodes (next_live n m nodes l p) in
    let a = ap length p.whole ∙ length-append p.gone (p.string ∷ nodes_after m nodes) in
    let b = ap length f.from_there in omega (arith, a, b)

pub next_smaller : (n : ℕ) (nodes : List TokenNode) (r : Option ℕ) → is_live n nodes ≡ true → IsNumbered nodes → MatchOption r (HasNoString nodes n) (IsNextString nodes n) → length (rest_from r nodes) < length (nodes_from n nodes)
next_smaller n nodes None l d h = let a = ap length (found n nodes l).from_there in omega (arith, a)
next_smaller n nodes (Some m) l d h =
    let a = ap length (found n nodes l).from_there in
    let b = next_less n m nodes (Some m) l d h in omega (arith, a, b)

pub joined_live : (n last : ℕ) (nodes : List TokenNode) (text parts : List ℕ) → is_live n nodes ≡ true → IsJoined nodes n text parts last → is_live last nodes ≡ true
joined_live n last nodes text parts l j =
    let f = found n nodes l in
    subst (λ t. is_live last t ≡ true) (sym f.whole)
    (live_right last (nodes_before n nodes) (f.node ∷ nodes_after n nodes) (or_right _ _ (subst (λ t. is_live last t ≡ true) (sym j.whole) (live_left last j.middle (nodes_after last nodes) j.inside))))

pub joined_second : (n last : ℕ) (nodes : List TokenNode) (text parts : List ℕ) (o : Option ℕ) → IsJoined nodes n text parts last → o ≡ first_of (nodes_after n nodes) → IsSome o
joined_second n last nodes text parts o j e = at_middle j.middle refl
  where
    at_middle : (middle : List TokenNode) → j.middle ≡ middle → IsSome o
    at_middle [] k = absurd (let a = sym (ap (is_live last) k) ∙ j.inside in cc)
    at_middle (y ∷ middle) k = subst IsSome (sym (e ∙ ap first_of (j.whole ∙ ap (λ t. t ++ nodes_after last nodes) k))) refl

pub staying_token : (n : ℕ) (nodes : List TokenNode) (t : Token) → is_live n nodes ≡ true → (s : IsStaying nodes n) → token_of n nodes ≡ Some t → t ≡ s.node.token
staying_token n nodes t l s e = token_same n nodes l t e ∙ ap (λ x. x.token) (cons_same (sym (found n nodes l).from_there ∙ s.here)).0
