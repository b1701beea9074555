-- The sweep keeps brackets paired, and the nodes a token list.
use Rattle.std.proofs.Common.{◌≡◌, ℕ, ◌≤◌, arith, List, [], ◌∷◌, ◌++◌, Option, Some, None, IfSome, IsTrue, Bool, true, false, not, ◌&&◌, refl, sym, ap, ◌∙◌, subst, append-nil, cond, codes, length, ⊎_elim, ◌==◌}
use Rattle.std.specs.List.{AllByRecursion}
use Rattle.std.proofs.lemmas.Bool.{and_left, and_parts, both_ways, cases_Bool, cond-true, cond-false, eq-eqb, false_from_ne_true, or_cases, or_from, or_left, or_right}
use Rattle.cx_tokens.specs.declared.token.Kind.{Kind}
use Rattle.cx_tokens.specs.declared.token.Kind.TheVariants as kinds
use Rattle.cx_tokens.specs.declared.token.Token.{Token}
use Rattle.cx_tokens.specs.Nodes.{TokenNode, nodes_before, nodes_after, nodes_from, is_live, node_of, partner_in, partner_of}
use Rattle.cx_tokens.specs.Brackets.{IsPaired, closes, is_punct, is_punctuator, opens}
use Rattle.cx_tokens.specs.Simplified.{attribute_words, is_name, is_string, is_word_of, joined, lone_words}
use Rattle.cx_tokens.specs.Shapes.Sweeping.{IsPlainAt, State, AfterWord, Plain, Within, state_after, are_strings, state_at, joined_node, node_stays, staying_nodes, all_joined_to_end, joined_to_end, state_after_all}
use Rattle.cx_tokens.proofs.NodeLaws.{IsNumbered, found, numbered_cons, numbered_head, numbered_tail, own_number, partner_live}
use Rattle.cx_tokens.proofs.BracketLaws.{closing_opens_not, fitting_parts}
use Rattle.cx_tokens.proofs.BalanceLaws.{IsBalanced, balanced_paired, closed, done, is_balanced, opened, passed}
use Rattle.cx_tokens.proofs.SimplifyLaws.{at_opening, at_other}

-- ---- tokens that are no brackets

no_bracket : (t : Token) → is_punct t.kind ≡ false → (opens t ≡ false) × (closes t ≡ false)
unfolding opens closes is_punctuator
no_bracket t h =
    (or_from _ _ (and_left _ _ h) (or_from _ _ (and_left _ _ h) (or_from _ _ (and_left _ _ h) refl)), or_from _ _ (and_left _ _ h) (or_from _ _ (and_left _ _ h) (or_from _ _ (and_left _ _ h) refl)))

name_no_punct : (k : Kind) → is_name k ≡ true → is_punct k ≡ false
name_no_punct kinds.Name h = refl
name_no_punct kinds.Number h = refl
name_no_punct kinds.Char h = refl
name_no_punct kinds.String h = refl
name_no_punct kinds.Unclosed h = refl
name_no_punct kinds.Header h = refl
name_no_punct kinds.Punct h = absurd cc
name_no_punct kinds.Other h = refl

string_no_punct : (k : Kind) → is_string k ≡ true → is_punct k ≡ false
string_no_punct kinds.Name h = refl
string_no_punct kinds.Number h = refl
string_no_punct kinds.Char h = refl
string_no_punct kinds.String h = refl
string_no_punct kinds.Unclosed h = refl
string_no_punct kinds.Header h = refl
string_no_punct kinds.Punct h = absurd cc
string_no_punct kinds.Other h = refl

word_no_bracket : (words : List (List ℕ)) (t : Token) → is_word_of words t ≡ true → (opens t ≡ false) × (closes t ≡ false)
unfolding is_word_of
word_no_bracket words t h = no_bracket t (name_no_punct t.kind (and_parts _ _ h).0)

round_opens : (t : Token) → is_punctuator (codes "(") t ≡ true → opens t ≡ true
unfolding opens
round_opens t h = or_left _ _ h

-- ---- the first of balanced nodes

pass : {stack xs : List TokenNode} {x : TokenNode} → IsBalanced stack (x ∷ xs) → opens x.token ≡ false → closes x.token ≡ false → IsBalanced stack xs × (x.partner ≡ None)
pass {x = x} (opened p h) o c = absurd (both_ways (opens x.token) o p)
pass {x = x} (closed {a = a} f p q h) o c = absurd (both_ways (closes x.token) c (fitting_parts a.token x.token f).1)
pass (passed p q n h) o c = (h, n)

open_first : {stack xs : List TokenNode} {x : TokenNode} → IsBalanced stack (x ∷ xs) → opens x.token ≡ true → IsBalanced (x ∷ stack) xs
open_first (opened p h) o = h
open_first {x = x} (closed {a = a} f p q h) o = absurd (both_ways (opens x.token) (closing_opens_not x.token (fitting_parts a.token x.token f).1) o)
open_first {x = x} (passed p q n h) o = absurd (both_ways (opens x.token) p o)

record Onward (stack : List TokenNode) (x : TokenNode) (xs : List TokenNode) : Type 0 where
  next : List TokenNode
  balanced : IsBalanced next xs
  back : (ys : List TokenNode) → IsBalanced next ys → IsBalanced stack (x ∷ ys)

onward : {stack xs : List TokenNode} {x : TokenNode} → IsBalanced stack (x ∷ xs) → Onward stack x xs
onward {stack = stack} {x = x} (opened o h) = record { next = x ∷ stack; balanced = h; back = λ ys k. opened o k }
onward (closed {stack = stack} f p q h) = record { next = stack; balanced = h; back = λ ys k. closed f p q k }
onward {stack = stack} (passed o c n h) = record { next = stack; balanced = h; back = λ ys k. passed o c n k }

-- an open bracket has a partner behind
cons_same : {x y : TokenNode} {xs ys : List TokenNode} → x ∷ xs ≡ y ∷ ys → (x ≡ y) × (xs ≡ ys)
cons_same e = (cc, cc)

later : {stack xs : List TokenNode} → IsBalanced stack xs → (above : List TokenNode) (a : TokenNode) (below : List TokenNode) → stack ≡ above ++ a ∷ below
    → (n : ℕ) × (a.partner ≡ Some n) × (is_live n xs ≡ true)
later done [] a below e = absurd cc
later done (t ∷ above) a below e = absurd cc
later (opened {x = x} o h) above a below e = let r = later h (x ∷ above) a below (ap (λ t. x ∷ t) e) in (r.0, r.1, or_right _ _ r.2)
later (closed {a = b} {x = x} f p q h) [] a below e = (x.number, ap (λ t. t.partner) (sym (cons_same e).0) ∙ p, or_left _ _ (eq-eqb x.number x.number refl))
later (closed f p q h) (t ∷ above) a below e = let r = later h above a below (cons_same e).1 in (r.0, r.1, or_right _ _ r.2)
later (passed o c n h) above a below e = let r = later h above a below e in (r.0, r.1, or_right _ _ r.2)

same_partner : {o : Option ℕ} {n m : ℕ} → o ≡ Some n → o ≡ Some m → n ≡ m
same_partner h k = cc

later_number : {xs : List TokenNode} (n : ℕ) (above : List TokenNode) (a x : TokenNode) (below : List TokenNode) → IsBalanced (above ++ a ∷ below) xs → a.partner ≡ Some n → IsNumbered (x ∷ xs)
    → (x.number == n) ≡ false
later_number {xs = xs} n above a x below h p d =
    let r = later h above a below refl in
    let live : is_live n xs ≡ true = subst (λ m. is_live m xs ≡ true) (same_partner r.1 p) r.2 in
    false_from_ne_true (x.number == n) (λ e. both_ways (is_live n xs) (subst (λ m. is_live m xs ≡ false) (own_number x n e) (numbered_head x xs d)) live)

-- ---- what holds in each state

record Skips (n : ℕ) (stack xs : List TokenNode) : Type 0 where
  above : List TokenNode
  bracket : TokenNode
  balanced : IsBalanced (above ++ bracket ∷ stack) xs
  partner : bracket.partner ≡ Some n

Held : State → List TokenNode → List TokenNode → Type 0
Held Plain stack xs = IsBalanced stack xs
Held AfterWord stack xs = IsBalanced stack xs
Held (Within n) stack xs = Skips n stack xs

-- nodes are swept, and what is left is held
record Goes (stack made : List TokenNode) (state : State) (rest : List TokenNode) : Type 0 where
  next : List TokenNode
  held : Held state next rest
  back : (ys : List TokenNode) → IsBalanced next ys → IsBalanced stack (made ++ ys)

abbrev StepOf : State → List TokenNode → TokenNode → List TokenNode → Type 0
StepOf state stack x xs = Goes stack (cond (node_stays state x) (x ∷ []) []) (state_after state x) xs

step_plain_cases : (word lone : Bool) (stack : List TokenNode) (x : TokenNode) (xs : List TokenNode) → IsBalanced stack (x ∷ xs) → (word ≡ true → (opens x.token ≡ false) × (closes x.token ≡ false))
    → (lone ≡ true → (opens x.token ≡ false) × (closes x.token ≡ false)) → Goes stack (cond (not word && not lone) (x ∷ []) []) (cond word AfterWord Plain) xs
unfolding Held
step_plain_cases true lone stack x xs h f g = let p = f refl in record { next = stack; held = (pass h p.0 p.1).0; back = λ ys k. k }
step_plain_cases false true stack x xs h f g = let p = g refl in record { next = stack; held = (pass h p.0 p.1).0; back = λ ys k. k }
step_plain_cases false false stack x xs h f g = let o = onward h in record { next = o.next; held = o.balanced; back = o.back }

step_plain : (stack : List TokenNode) (x : TokenNode) (xs : List TokenNode) → IsBalanced stack (x ∷ xs) → StepOf Plain stack x xs
unfolding node_stays state_after
step_plain stack x xs h =
    step_plain_cases (is_word_of attribute_words x.token) (is_word_of lone_words x.token) stack x xs h (word_no_bracket attribute_words x.token) (word_no_bracket lone_words x.token)

still_within : (n : ℕ) (stack : List TokenNode) (x : TokenNode) (xs : List TokenNode) → (x.number == n) ≡ false → Skips n stack xs → StepOf (Within n) stack x xs
unfolding node_stays state_after Held
still_within n stack x xs e h =
    subst (λ s. Goes stack [] s xs) (sym (cond-false (x.number == n) Plain (Within n) e)) (record { next = stack; held = h; back = λ ys k. k })

ends_within : (n : ℕ) (stack : List TokenNode) (x : TokenNode) (xs : List TokenNode) → (x.number == n) ≡ true → IsBalanced stack xs → StepOf (Within n) stack x xs
unfolding node_stays state_after Held
ends_within n stack x xs e h =
    subst (λ s. Goes stack [] s xs) (sym (cond-true (x.number == n) Plain (Within n) e)) (record { next = stack; held = h; back = λ ys k. k })

within_cases : {all xs : List TokenNode} {x : TokenNode} → IsBalanced all (x ∷ xs) → (n : ℕ) (above : List TokenNode) (a : TokenNode) (stack : List TokenNode) → all ≡ above ++ a ∷ stack → a.partner ≡ Some n → IsNumbered (x ∷ xs)
    → StepOf (Within n) stack x xs
within_cases {xs = xs} {x = x} (opened o h) n above a stack e p d =
    let k = subst (λ t. IsBalanced t xs) (ap (λ t. x ∷ t) e) h in
    still_within n stack x xs (later_number n (x ∷ above) a x stack k p d) (record { above = x ∷ above; bracket = a; balanced = k; partner = p })
within_cases {xs = xs} {x = x} (closed {a = b} f q r h) n [] a stack e p d =
    let c = cons_same e in
    let same : x.number ≡ n = same_partner (ap (λ t. t.partner) (sym c.0) ∙ q) p in
    ends_within n stack x xs (eq-eqb x.number n same) (subst (λ t. IsBalanced t xs) c.1 h)
within_cases {xs = xs} {x = x} (closed f q r h) n (t ∷ above) a stack e p d =
    let k = subst (λ t. IsBalanced t xs) (cons_same e).1 h in
    still_within n stack x xs (later_number n above a x stack k p d) (record { above = above; bracket = a; balanced = k; partner = p })
within_cases {xs = xs} {x = x} (passed o c m h) n above a stack e p d =
    let k = subst (λ t. IsBalanced t xs) e h in
    still_within n stack x xs (later_number n above a x stack k p d) (record { above = above; bracket = a; balanced = k; partner = p })

step_behind : (stack : List TokenNode) (x : TokenNode) (xs : List TokenNode) → IsBalanced stack (x ∷ xs) → IsNumbered (x ∷ xs) → StepOf (state_at AfterWord x) stack x xs
unfolding state_at
step_behind stack x xs h d =
    ⊎_elim
    (λ (b : is_punctuator (codes "(") x.token ≡ true).
    let k = open_first h (round_opens x.token b) in
    let r = later k [] x stack refl in
    subst (λ s. StepOf s stack x xs) (sym (at_opening x (Some r.0) b r.1))
    (still_within r.0 stack x xs (later_number r.0 [] x x stack k r.1 d) (record { above = []; bracket = x; balanced = k; partner = r.1 })))
    (λ (b : is_punctuator (codes "(") x.token ≡ false). subst (λ s. StepOf s stack x xs) (sym (at_other x b)) (step_plain stack x xs h))
    (cases_Bool (is_punctuator (codes "(") x.token))

one_step : (state : State) (stack : List TokenNode) (x : TokenNode) (xs : List TokenNode) → Held state stack (x ∷ xs) → IsNumbered (x ∷ xs) → StepOf (state_at state x) stack x xs
unfolding Held state_at
one_step Plain stack x xs h d = step_plain stack x xs h
one_step AfterWord stack x xs h d = step_behind stack x xs h d
one_step (Within n) stack x xs h d = within_cases h.balanced n h.above h.bracket stack refl h.partner d

goes_on : (stays : Bool) (stack : List TokenNode) (x : TokenNode) (made : List TokenNode) (state last : State) (xs rest : List TokenNode) → (g : Goes stack (cond stays (x ∷ []) []) state xs) → Goes g.next made last rest
    → Goes stack (cond stays (x ∷ made) made) last rest
goes_on true stack x made state last xs rest g h = record { next = h.next; held = h.held; back = λ ys k. g.back (made ++ ys) (h.back ys k) }
goes_on false stack x made state last xs rest g h = record { next = h.next; held = h.held; back = λ ys k. g.back (made ++ ys) (h.back ys k) }

sweeps : (state : State) (stack front rest : List TokenNode) → Held state stack (front ++ rest) → IsNumbered (front ++ rest) → Goes stack (staying_nodes state front) (state_after_all state front) rest
unfolding staying_nodes state_after_all
sweeps state stack [] rest h d = record { next = stack; held = h; back = λ ys k. k }
sweeps state stack (x ∷ front) rest h d =
    let g = one_step state stack x (front ++ rest) h d in
    let next = state_after (state_at state x) x in
    goes_on (node_stays (state_at state x) x) stack x (staying_nodes next front) next (state_after_all next front) (front ++ rest) rest g
    (sweeps next g.next front rest g.held (numbered_tail x (front ++ rest) d))

-- ---- strings that are joined

join_balanced : {stack xs : List TokenNode} (x y : TokenNode) → are_strings x y ≡ true → IsBalanced stack (x ∷ y ∷ xs) → IsBalanced stack (joined_node x y ∷ xs)
unfolding are_strings joined_node joined
join_balanced x y s h =
    let both = and_parts (is_string x.token.kind) (is_string y.token.kind) s in
    let first = no_bracket x.token (string_no_punct x.token.kind both.0) in
    let second = no_bracket y.token (string_no_punct y.token.kind both.1) in
    let here = no_bracket (joined x.token y.token) (string_no_punct x.token.kind both.0) in
    let p = pass h first.0 first.1 in
    passed here.0 here.1 p.1 (pass p.0 second.0 second.1).0

put_balanced : (d : List TokenNode) (y : TokenNode) (stack rest : List TokenNode) → IsBalanced stack (d ++ y ∷ rest) → IsBalanced stack (joined_to_end d y ++ rest)
unfolding joined_to_end
put_balanced [] y stack rest h = h
put_balanced (x ∷ []) y stack rest h =
    elim (are_strings x y) as (λ b. are_strings x y ≡ b → IsBalanced stack (cond b (joined_node x y ∷ []) (x ∷ y ∷ []) ++ rest))
    [ true ↦ λ s. join_balanced x y s h | false ↦ λ s. h ] refl
put_balanced (x ∷ z ∷ d) y stack rest h = let o = onward h in o.back (joined_to_end (z ∷ d) y ++ rest) (put_balanced (z ∷ d) y o.next rest o.balanced)

put_all_balanced : (d xs stack rest : List TokenNode) → IsBalanced stack (d ++ (xs ++ rest)) → IsBalanced stack (all_joined_to_end d xs ++ rest)
unfolding all_joined_to_end
put_all_balanced d [] stack rest h = h
put_all_balanced d (x ∷ xs) stack rest h = put_all_balanced (joined_to_end d x) xs stack rest (put_balanced d x stack (xs ++ rest) h)

-- ---- the brackets stay paired

-- ---- each round bracket has one that closes it, and no attribute is cut off

abbrev pub HasCloser : TokenNode → Type 0
HasCloser x = is_punctuator (codes "(") x.token ≡ true → (n : ℕ) × (x.partner ≡ Some n) × ((x.number == n) ≡ false)

closers : (stack xs : List TokenNode) → IsBalanced stack xs → IsNumbered xs → AllByRecursion HasCloser xs
closers stack [] h d = tt
closers stack (x ∷ xs) h d =
    let o = onward h in (
      λ b. let k = open_first h (round_opens x.token b) in let r = later k [] x stack refl in (r.0, r.1, later_number r.0 [] x x stack k r.1 d),
      closers o.next xs o.balanced (numbered_tail x xs d),
    )

pub have_closers : (nodes : List TokenNode) → IsPaired nodes → IsNumbered nodes → AllByRecursion HasCloser nodes
have_closers nodes h d = closers [] nodes (is_balanced h) d

-- nothing that goes with a word is open
abbrev pub IsOutside : State → Type 0
IsOutside Plain = Unit {0}
IsOutside AfterWord = Unit {0}
IsOutside (Within n) = ⊥

outside_held : (state : State) (stack : List TokenNode) → Held state stack [] → IsOutside state
unfolding Held
outside_held Plain stack h = tt
outside_held AfterWord stack h = tt
outside_held (Within n) stack h = let r = later h.balanced h.above h.bracket stack refl in absurd (let a = r.2 in cc)

pub whole_outside : (nodes : List TokenNode) → IsPaired nodes → IsNumbered nodes → IsOutside (state_after_all Plain nodes)
unfolding Held
whole_outside nodes h d =
    let all = sym (append-nil nodes) in
    let g = sweeps Plain [] nodes [] (subst (IsBalanced []) all (is_balanced h)) (subst IsNumbered all d) in
    outside_held (state_after_all Plain nodes) g.next g.held

pub stays_outside : (state : State) (x : TokenNode) → node_stays (state_at state x) x ≡ true → IsOutside state
unfolding state_at node_stays
stays_outside Plain x h = tt
stays_outside AfterWord x h = tt
stays_outside (Within n) x h = absurd cc

-- ---- no node is new

record IsLess (new old : List TokenNode) : Type 0 where
  numbered : IsNumbered old → IsNumbered new
  live : (n : ℕ) → is_live n new ≡ true → is_live n old ≡ true
  shorter : length new ≤ length old

less_same : (xs : List TokenNode) → IsLess xs xs
less_same xs = record { numbered = λ d. d; live = λ n l. l; shorter = omega arith }

less_on : (a b c : List TokenNode) → IsLess a b → IsLess b c → IsLess a c
less_on a b c h k = record { numbered = λ d. h.numbered (k.numbered d); live = λ n l. k.live n (h.live n l); shorter = (let p = h.shorter in let q = k.shorter in omega arith) }

less_drop : (x : TokenNode) (a b : List TokenNode) → IsLess a b → IsLess a (x ∷ b)
less_drop x a b h = record { numbered = λ d. h.numbered (numbered_tail x b d); live = λ n l. or_right _ _ (h.live n l); shorter = (let p = h.shorter in omega arith) }

less_cons : (x y : TokenNode) (a b : List TokenNode) → x.number ≡ y.number → IsLess a b → IsLess (x ∷ a) (y ∷ b)
less_cons x y a b e h = record {
  numbered = λ d. numbered_cons x a
      (false_from_ne_true (is_live x.number a) (λ l. both_ways (is_live y.number b) (numbered_head y b d) (subst (λ n. is_live n b ≡ true) e (h.live x.number l))))
      (h.numbered (numbered_tail y b d));
  live = λ n l. ⊎_elim (λ (m : (x.number == n) ≡ true). or_left _ _ (subst (λ k. (k == n) ≡ true) e m)) (λ (m : is_live n a ≡ true). or_right _ _ (h.live n m)) (or_cases _ _ l);
  shorter = (let p = h.shorter in omega arith);
}

kept_less : (state : State) (xs rest : List TokenNode) → IsLess (staying_nodes state xs ++ rest) (xs ++ rest)
unfolding staying_nodes
kept_less state [] rest = less_same rest
kept_less state (x ∷ xs) rest =
    let next = state_after (state_at state x) x in
    let h = kept_less next xs rest in
    elim (node_stays (state_at state x) x) as (λ b. IsLess (cond b (x ∷ staying_nodes next xs) (staying_nodes next xs) ++ rest) (x ∷ (xs ++ rest)))
    [ true ↦ less_cons x x (staying_nodes next xs ++ rest) (xs ++ rest) refl h | false ↦ less_drop x (staying_nodes next xs ++ rest) (xs ++ rest) h ]

put_less : (d : List TokenNode) (y : TokenNode) (rest : List TokenNode) → IsLess (joined_to_end d y ++ rest) (d ++ y ∷ rest)
unfolding joined_to_end joined_node
put_less [] y rest = less_same (y ∷ rest)
put_less (x ∷ []) y rest =
    elim (are_strings x y) as (λ b. IsLess (cond b (joined_node x y ∷ []) (x ∷ y ∷ []) ++ rest) (x ∷ y ∷ rest))
    [ true ↦ less_cons (joined_node x y) x rest (y ∷ rest) refl (less_drop y rest rest (less_same rest)) | false ↦ less_same (x ∷ y ∷ rest) ]
put_less (x ∷ z ∷ d) y rest = less_cons x x (joined_to_end (z ∷ d) y ++ rest) (z ∷ d ++ y ∷ rest) refl (put_less (z ∷ d) y rest)

put_all_less : (d xs rest : List TokenNode) → IsLess (all_joined_to_end d xs ++ rest) (d ++ (xs ++ rest))
unfolding all_joined_to_end
put_all_less d [] rest = less_same (d ++ rest)
put_all_less d (x ∷ xs) rest =
    less_on (all_joined_to_end (joined_to_end d x) xs ++ rest) (joined_to_end d x ++ (xs ++ rest)) (d ++ x ∷ (xs ++ rest)) (put_all_less (joined_to_end d x) xs rest) (put_less d x (xs ++ rest))

swept_less : (front rest : List TokenNode) → IsLess (all_joined_to_end [] (staying_nodes Plain front) ++ rest) (front ++ rest)
swept_less front rest =
    less_on (all_joined_to_end [] (staying_nodes Plain front) ++ rest) (staying_nodes Plain front ++ rest) (front ++ rest) (put_all_less [] (staying_nodes Plain front) rest) (kept_less Plain front rest)

-- nodes whose front is simplified
pub front_numbered : (front rest : List TokenNode) → IsNumbered (front ++ rest) → IsNumbered (all_joined_to_end [] (staying_nodes Plain front) ++ rest)
front_numbered front rest d = (swept_less front rest).numbered d

plain_held : (state : State) (stack rest : List TokenNode) → IsPlainAt state rest → Held state stack rest → IsBalanced stack rest
unfolding Held
plain_held Plain stack rest k h = h
plain_held AfterWord stack rest k h = h
plain_held (Within n) stack rest k h = absurd k

pub front_paired : (front rest : List TokenNode) → IsPlainAt (state_after_all Plain front) rest → IsPaired (front ++ rest) → IsNumbered (front ++ rest) → IsPaired (all_joined_to_end [] (staying_nodes Plain front) ++ rest)
unfolding Held
front_paired front rest k h d =
    let g = sweeps Plain [] front rest (is_balanced h) d in
    balanced_paired (put_all_balanced [] (staying_nodes Plain front) [] rest (g.back rest (plain_held (state_after_all Plain front) g.next rest k g.held)))

-- ---- a closing bracket stands behind the one that it closes

-- nodes, with the brackets that are open in front of them
record StandsOpen (rest : List TokenNode) : Type 0 where
  stack : List TokenNode
  balanced : IsBalanced stack rest

behind_front : (front rest stack : List TokenNode) → IsBalanced stack (front ++ rest) → StandsOpen rest
behind_front [] rest stack h = record { stack = stack; balanced = h }
behind_front (x ∷ front) rest stack h = let o = onward h in behind_front front rest o.next o.balanced

pub closes_after : (nodes : List TokenNode) (n m : ℕ) → IsPaired nodes → IfSome (node_of n nodes) (λ x. IsTrue (opens x.token)) → partner_of n nodes ≡ Some m → is_live m (nodes_from n nodes) ≡ true
closes_after nodes n m h o p =
    let f = found n nodes (partner_live n m nodes p) in
    let b = behind_front (nodes_before n nodes) (f.node ∷ nodes_after n nodes) [] (subst (IsBalanced []) f.whole (is_balanced h)) in
    let is : opens f.node.token ≡ true = subst (λ t. IfSome t (λ x. IsTrue (opens x.token))) f.is_node o in
    let r = later (open_first b.balanced is) [] f.node b.stack refl in
    let partner : f.node.partner ≡ Some m = sym (ap partner_in f.is_node) ∙ p in
    subst (λ t. is_live m t ≡ true) (sym f.from_there) (or_right _ _ (subst (λ k. is_live k (nodes_after n nodes) ≡ true) (same_partner r.1 partner) r.2))
