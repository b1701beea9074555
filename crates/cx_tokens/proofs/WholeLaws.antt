-- Lists made of tokens, and tokens taken out of lists.
use Rattle.std.proofs.Common.{◌≡◌, ℕ, ◌<◌, arith, List, [], ◌∷◌, ◌++◌, All, Some, None, true, false, refl, sym, ap, ap₂, ◌∙◌, subst, length, map, ◌==◌, if◌then◌else◌}
use Rattle.std.proofs.lemmas.List.{append_assoc, append-nil, length-map}
use Rattle.std.proofs.lemmas.List.Elements.{All-cons}
use Rattle.std.proofs.lemmas.Bool.Decides.{nat_tests}
use Rattle.cx_tokens.specs.declared.token.Token.{Token}
use Rattle.cx_tokens.specs.Nodes.{TokenNode, erased, first_of, inserted, new_node, nodes_after, nodes_before, token_of, tokens, with_live_partners}

pub put_first : (left rest wanted : List Token) (t : Token) (n : ℕ) (nodes new : List TokenNode) → left ≡ rest ++ t ∷ []
    → new ≡ inserted None (new_node n t) nodes → left ++ tokens nodes ≡ wanted → rest ++ tokens new ≡ wanted
put_first left rest wanted t n nodes new e i h =
    ap (λ l. rest ++ tokens l) i ∙ sym (append_assoc rest (t ∷ []) (tokens nodes)) ∙ ap (λ l. l ++ tokens nodes) (sym e) ∙ h

pub put_alone : (t : Token) (n : ℕ) (nodes new : List TokenNode) → new ≡ inserted None (new_node n t) nodes
    → All (λ x. x.partner ≡ None) nodes → All (λ x. x.partner ≡ None) new
put_alone t n nodes new i h = subst (λ l. All (λ x. x.partner ≡ None) l) (sym i) (All-cons (λ x. x.partner ≡ None) (new_node n t) nodes refl h)

same_tokens : (nodes : List TokenNode) → tokens (with_live_partners nodes) ≡ tokens nodes
unfolding with_live_partners
same_tokens nodes = copied _ (λ x. refl) nodes
  where
    copied : (f : TokenNode → TokenNode) → ((x : TokenNode) → (f x).token ≡ x.token) → (xs : List TokenNode) → tokens (map f xs) ≡ tokens xs
    copied f h [] = refl
    copied f h (x ∷ xs) = ap₂ (λ a b. a ∷ b) (h x) (copied f h xs)

fewer : (f : TokenNode → TokenNode) (xs : List TokenNode) → length (map f xs) ≡ length xs
fewer f xs = length-map xs f

itself : (n : ℕ) → (n == n) ≡ true
itself n = grind (arith, nat_tests)

-- the first node is taken out
first_out : (x : TokenNode) (xs : List TokenNode) → erased x.number (x ∷ xs) ≡ with_live_partners xs
unfolding nodes_before nodes_after
first_out x xs = rw (itself x.number) refl

first_token : (x : TokenNode) (xs : List TokenNode) (t : Token) → token_of x.number (x ∷ xs) ≡ Some t → x.token ≡ t
first_token x xs t h = grind (arith, h, itself x.number)

pub taken_first : (nodes new : List TokenNode) (n : ℕ) (t : Token) → Some n ≡ first_of nodes → token_of n nodes ≡ Some t → new ≡ erased n nodes
    → (tokens nodes ≡ t ∷ tokens new) × (length new < length nodes)
unfolding with_live_partners
taken_first [] new n t f h e = absurd cc
taken_first (x ∷ xs) new n t f h e =
    let m : x.number ≡ n = cc in
    let is : new ≡ with_live_partners xs = e ∙ (subst (λ k. erased k (x ∷ xs) ≡ with_live_partners xs) m (first_out x xs)) in
    let token : x.token ≡ t = first_token x xs t (subst (λ k. token_of k (x ∷ xs) ≡ Some t) (sym m) h) in (
      ap (λ y. y ∷ tokens xs) token ∙ ap (λ l. t ∷ l) (sym (ap tokens is ∙ same_tokens xs)),
      let l : length new ≡ length xs = ap length is ∙ fewer _ xs in omega (arith, l),
    )

pub take_next : (taken new_taken : List Token) (nodes new : List TokenNode) (wanted : List Token) (n : ℕ) (t : Token) → Some n ≡ first_of nodes
    → token_of n nodes ≡ Some t → new ≡ erased n nodes → new_taken ≡ taken ++ t ∷ [] → taken ++ tokens nodes ≡ wanted → new_taken ++ tokens new ≡ wanted
take_next taken new_taken nodes new wanted n t f h e p w =
    ap (λ l. l ++ tokens new) p ∙ append_assoc taken (t ∷ []) (tokens new)
    ∙ ap (λ l. taken ++ l) (sym (taken_first nodes new n t f h e).0) ∙ w

pub all_taken : (taken wanted : List Token) (nodes : List TokenNode) → None ≡ first_of nodes → taken ++ tokens nodes ≡ wanted → taken ≡ wanted
all_taken taken wanted [] f h = sym (append-nil taken) ∙ h
all_taken taken wanted (x ∷ xs) f h = absurd cc
