-- Pairs of brackets, as a walk with a stack of the open ones finds them.
use Rattle.std.proofs.Common.{◌≡◌, ℕ, List, [], ◌∷◌, ◌++◌, Some, None, Bool, true, false, refl, sym, ap, ap₂, ◌∙◌, subst, append_assoc, append-nil, map}
use Rattle.std.proofs.lemmas.Bool.{both_ways}
use Rattle.cx_tokens.specs.declared.token.Token.{Token}
use Rattle.cx_tokens.specs.Nodes.{TokenNode, tokens}
use Rattle.cx_tokens.specs.Brackets.{IsPaired, closes, fits, nothing, opens, other, pair}
use Rattle.cx_tokens.specs.Shapes.Pairing.{number_and_token}
use Rattle.cx_tokens.proofs.BracketLaws.{closing_opens_not, fitting_parts, opening_closes_not}

-- the brackets of nodes behind open ones are paired
pub data IsBalanced : List TokenNode → List TokenNode → Type 0 where
  done : IsBalanced [] []
  opened : {stack rest : List TokenNode} {x : TokenNode} → opens x.token ≡ true → IsBalanced (x ∷ stack) rest → IsBalanced stack (x ∷ rest)
  closed : {stack rest : List TokenNode} {a x : TokenNode} → fits a.token x.token ≡ true → a.partner ≡ Some x.number → x.partner ≡ Some a.number → IsBalanced stack rest → IsBalanced (a ∷ stack) (x ∷ rest)
  passed : {stack rest : List TokenNode} {x : TokenNode} → opens x.token ≡ false → closes x.token ≡ false → x.partner ≡ None → IsBalanced stack rest → IsBalanced stack (x ∷ rest)

pub paired_balanced : {xs : List TokenNode} → IsPaired xs → (stack rest : List TokenNode) → IsBalanced stack rest → IsBalanced stack (xs ++ rest)
paired_balanced nothing stack more h = h
paired_balanced (other o c p k) stack more h = passed o c p (paired_balanced k stack more h)
paired_balanced (pair a b inner rest e f p q k l) stack more h =
    subst (λ t. IsBalanced stack (t ++ more)) (sym e)
    (opened (fitting_parts a.token b.token f).0
    (subst (IsBalanced (a ∷ stack)) (sym (append_assoc inner (b ∷ rest) more))
    (paired_balanced k (a ∷ stack) (b ∷ (rest ++ more)) (closed f p q (paired_balanced l stack more h)))))

pub is_balanced : {xs : List TokenNode} → IsPaired xs → IsBalanced [] xs
is_balanced {xs = xs} h = subst (IsBalanced []) (append-nil xs) (paired_balanced h [] [] done)

-- ---- the way back

record Closed (a : TokenNode) (stack xs : List TokenNode) (Rest : List TokenNode → Type 0) : Type 0 where
  inner : List TokenNode
  last : TokenNode
  rest : List TokenNode
  whole : xs ≡ inner ++ last ∷ rest
  fit : fits a.token last.token ≡ true
  partner : a.partner ≡ Some last.number
  back : last.partner ≡ Some a.number
  inner_is : IsPaired inner
  behind_it : Rest rest

AreClosed : List TokenNode → List TokenNode → Type 0
AreClosed [] xs = IsPaired xs
AreClosed (a ∷ stack) xs = Closed a stack xs (λ rest. AreClosed stack rest)

close_other : (stack xs : List TokenNode) (x : TokenNode) → opens x.token ≡ false → closes x.token ≡ false → x.partner ≡ None → AreClosed stack xs → AreClosed stack (x ∷ xs)
unfolding AreClosed
close_other [] xs x o c p h = other o c p h
close_other (a ∷ stack) xs x o c p h = record {
  inner = x ∷ h.inner;
  last = h.last;
  rest = h.rest;
  whole = ap (λ t. x ∷ t) h.whole;
  fit = h.fit;
  partner = h.partner;
  back = h.back;
  inner_is = other o c p h.inner_is;
  behind_it = h.behind_it;
}

close_pair : (stack xs inner rest : List TokenNode) (x b : TokenNode) → xs ≡ inner ++ b ∷ rest → fits x.token b.token ≡ true → x.partner ≡ Some b.number → b.partner ≡ Some x.number
    → IsPaired inner → AreClosed stack rest → AreClosed stack (x ∷ xs)
unfolding AreClosed
close_pair [] xs inner rest x b w f p q g h = pair x b inner rest (ap (λ t. x ∷ t) w) f p q g h
close_pair (a ∷ stack) xs inner rest x b w f p q g h = record {
  inner = x ∷ (inner ++ b ∷ h.inner);
  last = h.last;
  rest = h.rest;
  whole = ap (λ t. x ∷ t) (w ∙ ap (λ t. inner ++ b ∷ t) h.whole ∙ sym (append_assoc inner (b ∷ h.inner) (h.last ∷ h.rest)));
  fit = h.fit;
  partner = h.partner;
  back = h.back;
  inner_is = pair x b inner h.inner refl f p q g h.inner_is;
  behind_it = h.behind_it;
}

balanced_closed : {stack xs : List TokenNode} → IsBalanced stack xs → AreClosed stack xs
unfolding AreClosed
balanced_closed done = nothing
balanced_closed (opened {stack = stack} {rest = rest} {x = x} o h) =
    let k = balanced_closed h in close_pair stack rest k.inner k.rest x k.last k.whole k.fit k.partner k.back k.inner_is k.behind_it
balanced_closed (closed {stack = stack} {rest = rest} {a = a} {x = x} f p q h) = record {
  inner = [];
  last = x;
  rest = rest;
  whole = refl;
  fit = f;
  partner = p;
  back = q;
  inner_is = nothing;
  behind_it = balanced_closed h;
}
balanced_closed (passed {stack = stack} {rest = rest} {x = x} o c p h) = close_other stack rest x o c p (balanced_closed h)

pub balanced_paired : {xs : List TokenNode} → IsBalanced [] xs → IsPaired xs
unfolding AreClosed
balanced_paired h = balanced_closed h

-- ---- one pairing

cons_parts : {A : Type 0} {x y : A} {xs ys : List A} → x ∷ xs ≡ y ∷ ys → (x ≡ y) × (xs ≡ ys)
cons_parts e = (cc, cc)

pub named_parts : (xs ys : List TokenNode) → map number_and_token xs ≡ map number_and_token ys → (map (λ x. x.number) xs ≡ map (λ x. x.number) ys) × (tokens xs ≡ tokens ys)
named_parts [] [] e = (refl, refl)
named_parts [] (y ∷ ys) e = absurd cc
named_parts (x ∷ xs) [] e = absurd cc
named_parts (x ∷ xs) (y ∷ ys) e =
    let p = cons_parts e in let k = named_parts xs ys p.1 in (ap₂ (λ n r. n.0 ∷ r) p.0 k.0, ap₂ (λ n r. n.1 ∷ r) p.0 k.1)

pub named_both : (xs ys : List TokenNode) → map (λ x. x.number) xs ≡ map (λ x. x.number) ys → tokens xs ≡ tokens ys → map number_and_token xs ≡ map number_and_token ys
named_both [] [] e f = refl
named_both [] (y ∷ ys) e f = absurd cc
named_both (x ∷ xs) [] e f = absurd cc
named_both (x ∷ xs) (y ∷ ys) e f =
    let p = cons_parts e in let q = cons_parts f in
    let pairs : (a b : ℕ) (t u : Token) → a ≡ b → t ≡ u → ◌≡◌ {A = ℕ × Token} (a, t) (b, u) = λ a b t u m n. ap₂ (λ (k : ℕ) (l : Token). let r : ℕ × Token = (k, l) in r) m n in
    ap₂ (λ n r. n ∷ r) (pairs x.number y.number x.token y.token p.0 q.0) (named_both xs ys p.1 q.1)

same_node : (x y : TokenNode) → number_and_token x ≡ number_and_token y → x.partner ≡ y.partner → x ≡ y
same_node x y e p = ap₂ (λ n q. record { number = n.0; token = n.1; partner = q }) e p

differ : (test : Token → Bool) (x y : TokenNode) → number_and_token x ≡ number_and_token y → test x.token ≡ true → test y.token ≡ false → ⊥
differ test x y e h k = both_ways (test y.token) k (sym (ap (λ n. test n.1) e) ∙ h)

same_balanced : {stack xs : List TokenNode} → IsBalanced stack xs → {others ys : List TokenNode} → IsBalanced others ys → map number_and_token stack ≡ map number_and_token others → map number_and_token xs ≡ map number_and_token ys
    → (stack ≡ others) × (xs ≡ ys)
same_balanced done done s e = (refl, refl)
same_balanced done (opened p k) s e = absurd cc
same_balanced done (closed f p q k) s e = absurd cc
same_balanced done (passed o c p k) s e = absurd cc
same_balanced (opened o h) done s e = absurd cc
same_balanced (opened {x = x} o h) (opened {x = y} p k) s e =
    let c = cons_parts e in
    let r = same_balanced h k (ap₂ (λ n t. n ∷ t) c.0 s) c.1 in
    let d = cons_parts r.0 in (d.1, ap₂ (λ n t. n ∷ t) d.0 r.1)
same_balanced (opened {x = x} o h) (closed {a = b} {x = y} f p q k) s e =
    absurd (differ opens x y (cons_parts e).0 o (closing_opens_not y.token (fitting_parts b.token y.token f).1))
same_balanced (opened {x = x} o h) (passed {x = y} p c q k) s e = absurd (differ opens x y (cons_parts e).0 o p)
same_balanced (closed f p q h) done s e = absurd cc
same_balanced (closed {a = a} {x = x} f p q h) (opened {x = y} o k) s e =
    absurd (differ closes x y (cons_parts e).0 (fitting_parts a.token x.token f).1 (opening_closes_not y.token o))
same_balanced (closed {a = a} {x = x} f p q h) (closed {a = b} {x = y} g t u k) s e =
    let c = cons_parts e in
    let d = cons_parts s in
    let r = same_balanced h k d.1 c.1 in
    let first : a ≡ b = same_node a b d.0 (p ∙ ap (λ n. Some n.0) c.0 ∙ sym t) in
    let second : x ≡ y = same_node x y c.0 (q ∙ ap (λ n. Some n.0) d.0 ∙ sym u) in
    (ap₂ (λ n m. n ∷ m) first r.0, ap₂ (λ n m. n ∷ m) second r.1)
same_balanced (closed {a = a} {x = x} f p q h) (passed {x = y} o c t k) s e = absurd (differ closes x y (cons_parts e).0 (fitting_parts a.token x.token f).1 c)
same_balanced (passed o c p h) done s e = absurd cc
same_balanced (passed {x = x} o c p h) (opened {x = y} q k) s e = absurd (differ opens y x (sym (cons_parts e).0) q o)
same_balanced (passed {x = x} o c p h) (closed {a = b} {x = y} f t u k) s e = absurd (differ closes y x (sym (cons_parts e).0) (fitting_parts b.token y.token f).1 c)
same_balanced (passed {x = x} o c p h) (passed {x = y} q d t k) s e =
    let b = cons_parts e in
    let r = same_balanced h k s b.1 in (r.0, ap₂ (λ n m. n ∷ m) (same_node x y b.0 (p ∙ sym t)) r.1)

pub same_pairing : (xs ys : List TokenNode) → IsPaired xs → IsPaired ys → map (λ x. x.number) xs ≡ map (λ x. x.number) ys → tokens xs ≡ tokens ys → xs ≡ ys
same_pairing xs ys h k e f = (same_balanced (is_balanced h) (is_balanced k) refl (named_both xs ys e f)).1
