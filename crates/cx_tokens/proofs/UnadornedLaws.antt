-- The sweep leaves what is left without attributes and lone words, and that is one list.
use Rattle.std.proofs.Common.{◌≡◌, ℕ, List, [], ◌∷◌, ◌++◌, Some, true, false, Bool, not, ◌&&◌, ◌==◌, refl, sym, ap, ◌∙◌, subst, cond, codes, ⊎_elim}
use Rattle.std.specs.Prelude.{bytes_eq}
use Rattle.std.specs.List.{AllByRecursion, list_any}
use Rattle.std.proofs.lemmas.Bool.{and_from, and_parts, and_right, both_ways, cases_Bool, cond-false, cond-true, eq-eqb, false_from_ne_true, not-true, not_from_false, or_cases, or_from, or_left, or_parts}
use Rattle.std.proofs.lemmas.Slice.Eq.{bytes_eq-Decides}
use Rattle.cx_tokens.specs.Nodes.{TokenNode, is_live}
use Rattle.cx_tokens.specs.Brackets.{IsPaired, is_punctuator}
use Rattle.cx_tokens.specs.Simplified.{IsPartlySimplified, IsSimplified, IsUnadorned, attribute, attribute_words, bare_word, begins_round, is_erased_word, is_word_of, lone_word, lone_words, nothing, other, strings_joined}
use Rattle.cx_tokens.specs.Shapes.Sweeping.{State, AfterWord, Plain, Within, IsStopped, state_after, state_at, node_stays, staying_nodes, all_joined_to_end, state_after_all}
use Rattle.cx_tokens.proofs.NodeLaws.{IsNumbered, numbered_apart, numbered_right, numbered_tail, own_number}
use Rattle.cx_tokens.proofs.SweepLaws.{kept_append, put_all_append}
use Rattle.cx_tokens.proofs.SimplifyLaws.{AreApart, ArePlain, all_joined, apart_same, at_opening, at_other, behind_entered, put_all_apart, put_all_plain, stays_same, sweep_more}
use Rattle.cx_tokens.proofs.SweptPairs.{HasCloser, IsOutside, have_closers, stays_outside, whole_outside}

-- ---- what the sweep leaves

-- nodes that end what goes with a word at the node of a number, and what is left of those after
record Ends (n : ℕ) (nodes left : List TokenNode) : Type 0 where
  inner : List TokenNode
  last : TokenNode
  rest : List TokenNode
  whole : nodes ≡ inner ++ last ∷ rest
  number : last.number ≡ n
  rest_left : IsUnadorned rest left

abbrev Leaves : State → List TokenNode → List TokenNode → Type 0
Leaves Plain nodes left = IsUnadorned nodes left
Leaves AfterWord nodes left = (word : TokenNode) → is_word_of attribute_words word.token ≡ true → IsUnadorned (word ∷ nodes) left
Leaves (Within n) nodes left = Ends n nodes left

plain_cases : (word lone : Bool) (x : TokenNode) (xs : List TokenNode) → is_word_of attribute_words x.token ≡ word → is_word_of lone_words x.token ≡ lone
    → Leaves (cond word AfterWord Plain) xs (staying_nodes (cond word AfterWord Plain) xs)
    → IsUnadorned (x ∷ xs) (cond (not word && not lone) (x ∷ staying_nodes (cond word AfterWord Plain) xs) (staying_nodes (cond word AfterWord Plain) xs))
unfolding is_erased_word
plain_cases true lone x xs w l h = h x w
plain_cases false true x xs w l h = lone_word l h
plain_cases false false x xs w l h = other (or_from _ _ w l) h

plain_leaves : (x : TokenNode) (xs : List TokenNode) → Leaves (state_after Plain x) xs (staying_nodes (state_after Plain x) xs) → IsUnadorned (x ∷ xs) (staying_nodes Plain (x ∷ xs))
unfolding staying_nodes state_at node_stays state_after
plain_leaves x xs h = plain_cases (is_word_of attribute_words x.token) (is_word_of lone_words x.token) x xs refl refl h

pub kept_within : (n : ℕ) (x : TokenNode) (xs : List TokenNode) → staying_nodes (Within n) (x ∷ xs) ≡ staying_nodes (state_after (Within n) x) xs
unfolding staying_nodes state_at node_stays
kept_within n x xs = refl

pub after_within : (n : ℕ) (x : TokenNode) → (x.number == n) ≡ false → state_after (Within n) x ≡ Within n
unfolding state_after
after_within n x d = cond-false (x.number == n) Plain (Within n) d

pub ends_within : (n : ℕ) (x : TokenNode) → (x.number == n) ≡ true → state_after (Within n) x ≡ Plain
unfolding state_after
ends_within n x d = cond-true (x.number == n) Plain (Within n) d

within_leaves : (n : ℕ) (x : TokenNode) (xs : List TokenNode) → Leaves (state_after (Within n) x) xs (staying_nodes (state_after (Within n) x) xs) → Ends n (x ∷ xs) (staying_nodes (Within n) (x ∷ xs))
within_leaves n x xs h =
    ⊎_elim
    (λ (e : (x.number == n) ≡ true).
    let k = subst (λ s. Leaves s xs (staying_nodes s xs)) (ends_within n x e) h in
    subst (Ends n (x ∷ xs)) (sym (kept_within n x xs ∙ ap (λ s. staying_nodes s xs) (ends_within n x e)))
    (record { inner = []; last = x; rest = xs; whole = refl; number = (let p : (x.number ≡ n) = same_number x n e in p); rest_left = k }))
    (λ (e : (x.number == n) ≡ false).
    let k = subst (λ s. Leaves s xs (staying_nodes s xs)) (after_within n x e) h in
    subst (Ends n (x ∷ xs)) (sym (kept_within n x xs ∙ ap (λ s. staying_nodes s xs) (after_within n x e)))
    (record { inner = x ∷ k.inner; last = k.last; rest = k.rest; whole = ap (λ t. x ∷ t) k.whole; number = k.number; rest_left = k.rest_left }))
    (cases_Bool (x.number == n))
  where
    same_number : (x : TokenNode) (n : ℕ) → (x.number == n) ≡ true → x.number ≡ n
    same_number x n e = own_number x n e

behind_round : (n : ℕ) (x : TokenNode) (xs : List TokenNode) → is_punctuator (codes "(") x.token ≡ true → x.partner ≡ Some n → (x.number == n) ≡ false → Ends n xs (staying_nodes (Within n) xs)
    → Leaves AfterWord (x ∷ xs) (staying_nodes AfterWord (x ∷ xs))
unfolding state_at
behind_round n x xs b p d h = λ word a.
    let e : staying_nodes AfterWord (x ∷ xs) ≡ staying_nodes (Within n) xs =
    behind_entered x xs (Within n) (at_opening x (Some n) b p) ∙ kept_within n x xs ∙ ap (λ s. staying_nodes s xs) (after_within n x d) in
    subst (IsUnadorned (word ∷ x ∷ xs)) (sym e)
    (attribute word x h.last h.inner h.rest (ap (λ t. word ∷ x ∷ t) h.whole) a b (p ∙ ap Some (sym h.number)) h.rest_left)

behind_other : (x : TokenNode) (xs : List TokenNode) → is_punctuator (codes "(") x.token ≡ false → IsUnadorned (x ∷ xs) (staying_nodes Plain (x ∷ xs)) → Leaves AfterWord (x ∷ xs) (staying_nodes AfterWord (x ∷ xs))
behind_other x xs b h = λ word a. subst (IsUnadorned (word ∷ x ∷ xs)) (sym (behind_entered x xs Plain (at_other x b))) (bare_word a b h)

pub state_round : (n : ℕ) (x : TokenNode) (xs : List TokenNode) → is_punctuator (codes "(") x.token ≡ true → x.partner ≡ Some n → (x.number == n) ≡ false
    → state_after_all AfterWord (x ∷ xs) ≡ state_after_all (Within n) xs
unfolding state_after_all state_at
state_round n x xs b p d =
    ap (λ s. state_after_all (state_after s x) xs) (at_opening x (Some n) b p) ∙ ap (λ s. state_after_all s xs) (after_within n x d)

pub state_other : (x : TokenNode) (xs : List TokenNode) → is_punctuator (codes "(") x.token ≡ false → state_after_all AfterWord (x ∷ xs) ≡ state_after_all (state_after Plain x) xs
unfolding state_after_all state_at
state_other x xs b = ap (λ s. state_after_all (state_after s x) xs) (at_other x b)

leaves : (state : State) (xs : List TokenNode) → AllByRecursion HasCloser xs → IsOutside (state_after_all state xs) → Leaves state xs (staying_nodes state xs)
unfolding staying_nodes state_after_all state_at
leaves Plain [] h o = nothing
leaves AfterWord [] h o = λ word a. bare_word a refl nothing
leaves (Within n) [] h o = absurd o
leaves Plain (x ∷ xs) h o = plain_leaves x xs (leaves (state_after Plain x) xs h.1 o)
leaves (Within n) (x ∷ xs) h o = within_leaves n x xs (leaves (state_after (Within n) x) xs h.1 o)
leaves AfterWord (x ∷ xs) h o =
    ⊎_elim
    (λ (b : is_punctuator (codes "(") x.token ≡ true).
    let p = h.0 b in
    behind_round p.0 x xs b p.1 p.2 (leaves (Within p.0) xs h.1 (subst IsOutside (state_round p.0 x xs b p.1 p.2) o)))
    (λ (b : is_punctuator (codes "(") x.token ≡ false).
    behind_other x xs b (plain_leaves x xs (leaves (state_after Plain x) xs h.1 (subst IsOutside (state_other x xs b) o))))
    (cases_Bool (is_punctuator (codes "(") x.token))

-- ---- nothing else is left

pub skip_to : (n : ℕ) (inner : List TokenNode) (b : TokenNode) (rest : List TokenNode) → is_live n inner ≡ false → b.number ≡ n → staying_nodes (Within n) (inner ++ b ∷ rest) ≡ staying_nodes Plain rest
skip_to n [] b rest l e = kept_within n b rest ∙ ap (λ s. staying_nodes s rest) (ends_within n b (eq-eqb b.number n e))
skip_to n (x ∷ inner) b rest l e =
    let p = or_parts _ _ l in
    kept_within n x (inner ++ b ∷ rest) ∙ ap (λ s. staying_nodes s (inner ++ b ∷ rest)) (after_within n x p.0) ∙ skip_to n inner b rest p.1 e

pub kept_attribute : (word : TokenNode) (xs : List TokenNode) → is_word_of attribute_words word.token ≡ true → staying_nodes Plain (word ∷ xs) ≡ staying_nodes AfterWord xs
unfolding staying_nodes state_at node_stays state_after
kept_attribute word xs a = word_case (is_word_of attribute_words word.token) (is_word_of lone_words word.token) a
  where
    word_case : (w l : Bool) → w ≡ true → cond (not w && not l) (word ∷ staying_nodes (cond w AfterWord Plain) xs) (staying_nodes (cond w AfterWord Plain) xs) ≡ staying_nodes AfterWord xs
    word_case true l e = refl
    word_case false l e = absurd cc

pub kept_bare : (word : TokenNode) (xs : List TokenNode) → begins_round xs ≡ false → staying_nodes AfterWord xs ≡ staying_nodes Plain xs
unfolding staying_nodes
kept_bare word [] b = refl
kept_bare word (x ∷ xs) b = behind_entered x xs Plain (at_other x b)

pub kept_lone : (word : TokenNode) (xs : List TokenNode) → is_word_of lone_words word.token ≡ true → is_word_of attribute_words word.token ≡ false → staying_nodes Plain (word ∷ xs) ≡ staying_nodes Plain xs
unfolding staying_nodes state_at node_stays state_after
kept_lone word xs l w = lone_case (is_word_of attribute_words word.token) (is_word_of lone_words word.token) w l
  where
    lone_case : (w l : Bool) → w ≡ false → l ≡ true → cond (not w && not l) (word ∷ staying_nodes (cond w AfterWord Plain) xs) (staying_nodes (cond w AfterWord Plain) xs) ≡ staying_nodes Plain xs
    lone_case true l e f = absurd cc
    lone_case false true e f = refl
    lone_case false false e f = absurd cc

kept_other : (x : TokenNode) (xs : List TokenNode) → is_erased_word x.token ≡ false → staying_nodes Plain (x ∷ xs) ≡ x ∷ staying_nodes Plain xs
unfolding staying_nodes state_at node_stays state_after is_erased_word
kept_other x xs e = let p = or_parts _ _ e in other_case (is_word_of attribute_words x.token) (is_word_of lone_words x.token) p.0 p.1
  where
    other_case : (w l : Bool) → w ≡ false → l ≡ false → cond (not w && not l) (x ∷ staying_nodes (cond w AfterWord Plain) xs) (staying_nodes (cond w AfterWord Plain) xs) ≡ x ∷ staying_nodes Plain xs
    other_case true l e f = absurd cc
    other_case false true e f = absurd cc
    other_case false false e f = refl

any_tested : (test : List ℕ → Bool) (table : List (List ℕ)) (text : List ℕ) → AllByRecursion (λ w. test w ≡ false) table → list_any (bytes_eq text) table ≡ true → test text ≡ false
any_tested test [] text h l = absurd cc
any_tested test (w ∷ table) text h l =
    ⊎_elim (λ (e : bytes_eq text w ≡ true). subst (λ t. test t ≡ false) (sym ((bytes_eq-Decides text w).0 e)) h.0)
    (λ (e : list_any (bytes_eq text) table ≡ true). any_tested test table text h.1 e) (or_cases _ _ l)

-- a lone word is no word of an attribute
pub lone_no_attribute : (x : TokenNode) → is_word_of lone_words x.token ≡ true → is_word_of attribute_words x.token ≡ false
unfolding is_word_of
lone_no_attribute x h =
    and_right _ _
    (any_tested (λ w. list_any (bytes_eq w) attribute_words) lone_words x.token.text
    (refl, (refl, (refl, (refl, (refl, (refl, (refl, (refl, (refl, tt))))))))) (and_parts _ _ h).1)

left_same : {nodes left : List TokenNode} → IsUnadorned nodes left → IsNumbered nodes → left ≡ staying_nodes Plain nodes
unfolding staying_nodes state_at
left_same nothing d = refl
left_same (attribute word a b inner rest e w p q h) d =
    let here = subst IsNumbered e d in
    let later = numbered_tail word (a ∷ (inner ++ b ∷ rest)) here in
    let dead : is_live b.number (a ∷ inner) ≡ false = false_from_ne_true (is_live b.number (a ∷ inner))
    (λ l. both_ways (is_live b.number (b ∷ rest)) (numbered_apart (a ∷ inner) (b ∷ rest) later b.number l) (or_left _ _ (eq-eqb b.number b.number refl))) in
    left_same h (numbered_tail b rest (numbered_right (a ∷ inner) (b ∷ rest) later))
    ∙ sym (ap (staying_nodes Plain) e ∙ kept_attribute word (a ∷ (inner ++ b ∷ rest)) w
    ∙ behind_entered a (inner ++ b ∷ rest) (Within b.number) (at_opening a (Some b.number) p q) ∙ skip_to b.number (a ∷ inner) b rest dead refl)
left_same (bare_word {word = word} {rest = rest} w b h) d =
    left_same h (numbered_tail word rest d) ∙ sym (kept_attribute word rest w ∙ kept_bare word rest b)
left_same (lone_word {word = word} {rest = rest} l h) d =
    left_same h (numbered_tail word rest d) ∙ sym (kept_lone word rest l (lone_no_attribute word l))
left_same (other {x = x} {rest = rest} e h) d =
    ap (λ t. x ∷ t) (left_same h (numbered_tail x rest d)) ∙ sym (kept_other x rest e)

-- ---- what is simplified

pub swept_simplified : (nodes : List TokenNode) → IsPaired nodes → IsNumbered nodes → IsSimplified nodes (all_joined_to_end [] (staying_nodes Plain nodes))
swept_simplified nodes h d =
    (staying_nodes Plain nodes, leaves Plain nodes (have_closers nodes h d) (whole_outside nodes h d), all_joined (staying_nodes Plain nodes))

simplified_is : (nodes new : List TokenNode) → IsNumbered nodes → IsSimplified nodes new → new ≡ all_joined_to_end [] (staying_nodes Plain nodes)
simplified_is nodes new d s = s.2 ∙ ap strings_joined (left_same s.1 d) ∙ sym (all_joined (staying_nodes Plain nodes))

pub one_simplified : (nodes some others : List TokenNode) → IsNumbered nodes → IsSimplified nodes some → IsSimplified nodes others → some ≡ others
one_simplified nodes some others d s t = simplified_is nodes some d s ∙ sym (simplified_is nodes others d t)

left_plain : {nodes left : List TokenNode} → IsUnadorned nodes left → ArePlain left
unfolding node_stays is_erased_word
left_plain nothing = tt
left_plain (attribute word a b inner rest e w p q h) = left_plain h
left_plain (bare_word w b h) = left_plain h
left_plain (lone_word l h) = left_plain h
left_plain (other {x = x} e h) =
    let p = or_parts _ _ e in (and_from _ _ (not_from_false _ p.0) (not_from_false _ p.1), left_plain h)

plain_left : (xs : List TokenNode) → ArePlain xs → IsUnadorned xs xs
unfolding node_stays is_erased_word
plain_left [] h = nothing
plain_left (x ∷ xs) h =
    let p = and_parts _ _ h.0 in
    other (or_from _ _ (not-true (is_word_of attribute_words x.token) p.0) (not-true (is_word_of lone_words x.token) p.1)) (plain_left xs h.1)

pub simplified_plain : (nodes new : List TokenNode) → IsSimplified nodes new → ArePlain new
simplified_plain nodes new s = subst ArePlain (all_joined s.0 ∙ sym s.2) (put_all_plain [] s.0 tt (left_plain s.1))

pub simplified_once : (nodes new : List TokenNode) → IsSimplified nodes new → IsSimplified new new
simplified_once nodes new s = (
  new,
  plain_left new (simplified_plain nodes new s),
  sym (apart_same new (subst AreApart (all_joined s.0 ∙ sym s.2) (put_all_apart [] s.0 tt))) ∙ all_joined new,
)

-- ---- where memory runs out

pub stopped_partly : (old new : List TokenNode) → IsStopped old new → IsPaired old → IsNumbered old → IsPaired new → IsNumbered new → IsPartlySimplified old new
stopped_partly old new h p d q c =
    let state = state_after_all Plain h.front in
    let rest = h.next ∷ h.rest in
    let closers = have_closers old p d in
    let swept : all_joined_to_end [] (staying_nodes Plain new) ≡ all_joined_to_end [] (staying_nodes Plain old) =
    ap (λ t. all_joined_to_end [] (staying_nodes Plain t)) h.made ∙ sweep_more h.front rest
    ∙ ap (all_joined_to_end (all_joined_to_end [] (staying_nodes Plain h.front))) (sym (stays_same state h.next h.rest h.stays))
    ∙ sym (put_all_append [] (staying_nodes Plain h.front) (staying_nodes state rest)) ∙ ap (all_joined_to_end []) (sym (kept_append Plain h.front rest))
    ∙ ap (λ t. all_joined_to_end [] (staying_nodes Plain t)) (sym h.whole) in
    record {
      front = h.front;
      done = all_joined_to_end [] (staying_nodes Plain h.front);
      rest = rest;
      whole = h.whole;
      front_done = (
        staying_nodes Plain h.front,
        leaves Plain h.front (all_left h.front rest (subst (AllByRecursion HasCloser) h.whole closers)) (stays_outside state h.next h.stays),
        all_joined (staying_nodes Plain h.front),
      );
      made = h.made;
      same_end = λ end. (
        λ s. subst (IsSimplified old) (sym (simplified_is new end c s ∙ swept)) (swept_simplified old p d),
        λ s. subst (IsSimplified new) (sym (simplified_is old end d s ∙ sym swept)) (swept_simplified new q c),
      );
    }
  where
    all_left : (a b : List TokenNode) → AllByRecursion HasCloser (a ++ b) → AllByRecursion HasCloser a
    all_left [] b h = tt
    all_left (x ∷ a) b h = (h.0, all_left a b h.1)
