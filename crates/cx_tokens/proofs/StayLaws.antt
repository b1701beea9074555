-- What stays when a token list is simplified.
use Rattle.std.proofs.Common.{◌≡◌, ℕ, List, [], ◌∷◌, ◌++◌, Bool, true, false, not, ◌&&◌, inl, inr, refl, sym, ap, ◌∙◌, subst, cond, map, filter, ⊎_elim}
use Rattle.std.specs.List.{list_any}
use Rattle.std.proofs.lemmas.Bool.{and_parts, not-true, or_from}
use Rattle.cx_tokens.specs.Nodes.{TokenNode, tokens}
use Rattle.cx_tokens.specs.Simplified.{IsSimplified, IsUnadorned, attribute, attribute_words, bare_word, is_erased_word, is_string, is_word_of, joined, lone_word, lone_words, nothing, other, strings_joined, with_strings}
use Rattle.cx_tokens.specs.Sublists.{IsSublist}
use Rattle.cx_tokens.specs.Shapes.Sweeping.{are_strings, node_stays}
use Rattle.cx_tokens.proofs.SimplifyLaws.{AreApart, ArePlain, all_joined, apart_last, put_all_apart}
use Rattle.cx_tokens.proofs.UnadornedLaws.{simplified_plain}

-- ---- no word and no strings side by side

none_erased : (xs : List TokenNode) → ArePlain xs → list_any is_erased_word (tokens xs) ≡ false
unfolding node_stays is_erased_word
none_erased [] h = refl
none_erased (x ∷ xs) h =
    let p = and_parts _ _ h.0 in
    or_from _ _ (or_from _ _ (not-true (is_word_of attribute_words x.token) p.0) (not-true (is_word_of lone_words x.token) p.1)) (none_erased xs h.1)

pub no_word_is_left : (nodes new : List TokenNode) → IsSimplified nodes new → list_any is_erased_word (tokens new) ≡ false
no_word_is_left nodes new s = none_erased new (simplified_plain nodes new s)

pub no_strings_adjoin : (nodes new front rest : List TokenNode) (x y : TokenNode) → IsSimplified nodes new → new ≡ front ++ x ∷ y ∷ rest
    → (is_string x.token.kind && is_string y.token.kind) ≡ false
unfolding are_strings
no_strings_adjoin nodes new front rest x y s e =
    apart_last front x y rest (subst AreApart (all_joined s.0 ∙ sym s.2 ∙ e) (put_all_apart [] s.0 tt))

-- ---- sublists

sub_same : {A : Type 0} (xs : List A) → IsSublist xs xs
sub_same [] = refl
sub_same (x ∷ xs) = inr (xs, refl, sub_same xs)

sub_after : {A : Type 0} (xs front rest : List A) → IsSublist xs rest → IsSublist xs (front ++ rest)
sub_after xs [] rest h = h
sub_after xs (x ∷ front) rest h = inl (sub_after xs front rest h)

sub_on : {A : Type 0} (some more all : List A) → IsSublist some more → IsSublist more all → IsSublist some all
sub_on {A} some more [] h k = subst (IsSublist some) k h
sub_on {A} some more (x ∷ all) h k =
    ⊎_elim
    (λ (l : IsSublist more all). inl (sub_on some more all h l))
    (λ (r : (rest : List A) × (more ≡ x ∷ rest) × IsSublist rest all).
    let g : IsSublist some (x ∷ r.0) = subst (IsSublist some) r.1 h in
    ⊎_elim
    (λ (l : IsSublist some r.0). inl (sub_on some r.0 all l r.2))
    (λ (q : (rest : List A) × (some ≡ x ∷ rest) × IsSublist rest r.0). inr (q.0, q.1, sub_on q.0 r.0 all q.2 r.2))
    g)
    k

sub_map : {A B : Type 0} (f : A → B) (some all : List A) → IsSublist some all → IsSublist (map f some) (map f all)
sub_map f some [] h = ap (map f) h
sub_map {A} f some (x ∷ all) h =
    ⊎_elim
    (λ (l : IsSublist some all). inl (sub_map f some all l))
    (λ (r : (rest : List A) × (some ≡ x ∷ rest) × IsSublist rest all). inr (map f r.0, ap (map f) r.1, sub_map f r.0 all r.2))
    h

sub_filter : {A : Type 0} (p : A → Bool) (xs : List A) → IsSublist (filter p xs) xs
sub_filter p [] = refl
sub_filter {A} p (x ∷ xs) =
    elim (p x) as (λ b. IsSublist (cond b (x ∷ filter p xs) (filter p xs)) (x ∷ xs)) [ true ↦ inr (filter p xs, refl, sub_filter p xs) | false ↦ inl (sub_filter p xs) ]

left_sub : {nodes left : List TokenNode} → IsUnadorned nodes left → IsSublist left nodes
left_sub nothing = refl
left_sub (attribute {left = left} word a b inner rest e w p q h) =
    subst (IsSublist left) (sym e) (inl (inl (sub_after left inner (b ∷ rest) (inl (left_sub h)))))
left_sub (bare_word w b h) = inl (left_sub h)
left_sub (lone_word l h) = inl (left_sub h)
left_sub (other {left = left} e h) = inr (left, refl, left_sub h)

-- ---- strings that are joined

numbers_joined : (x : TokenNode) (xs : List TokenNode) → IsSublist (map (λ y. y.number) (with_strings x xs)) (map (λ y. y.number) (x ∷ xs))
unfolding with_strings
numbers_joined x [] = sub_same (x.number ∷ [])
numbers_joined x (y ∷ ys) =
    let j : TokenNode = record { number = x.number; token = joined x.token y.token; partner = x.partner } in
    elim (is_string x.token.kind && is_string y.token.kind)
    as (λ b. IsSublist (map (λ z. z.number) (cond b (with_strings j ys) (x ∷ with_strings y ys))) (x.number ∷ y.number ∷ map (λ z. z.number) ys)) [
      | true ↦
          ⊎_elim (λ (l : IsSublist (map (λ z. z.number) (with_strings j ys)) (map (λ z. z.number) ys)). inl (inl l))
          (λ (r : (rest : List ℕ) × (map (λ z. z.number) (with_strings j ys) ≡ x.number ∷ rest) × IsSublist rest (map (λ z. z.number) ys)). inr (r.0, r.1, inl r.2))
          (numbers_joined j ys)
      | false ↦ inr (map (λ z. z.number) (with_strings y ys), refl, numbers_joined y ys)
    ]

pub order_is_kept : (nodes new : List TokenNode) → IsSimplified nodes new → IsSublist (map (λ x. x.number) new) (map (λ x. x.number) nodes)
order_is_kept nodes new s =
    sub_on (map (λ x. x.number) new) (map (λ x. x.number) s.0) (map (λ x. x.number) nodes)
    (subst (λ t. IsSublist (map (λ x. x.number) t) (map (λ x. x.number) s.0)) (sym s.2) (all_numbers s.0))
    (sub_map (λ x. x.number) s.0 nodes (left_sub s.1))
  where
    all_numbers : (xs : List TokenNode) → IsSublist (map (λ x. x.number) (strings_joined xs)) (map (λ x. x.number) xs)
    all_numbers [] = refl
    all_numbers (x ∷ xs) = numbers_joined x xs

abbrev others : List TokenNode → List TokenNode
others xs = filter (λ x. not (is_string x.token.kind)) xs

joined_kind : (a b : TokenNode) → (joined a.token b.token).kind ≡ a.token.kind
unfolding joined
joined_kind a b = refl

others_string : (x : TokenNode) (xs : List TokenNode) → is_string x.token.kind ≡ true → others (x ∷ xs) ≡ others xs
others_string x xs h = ap (λ b. cond (not b) (x ∷ others xs) (others xs)) h

others_head : (x : TokenNode) (xs ys : List TokenNode) → others xs ≡ others ys → others (x ∷ xs) ≡ others (x ∷ ys)
others_head x xs ys h = ap (λ t. cond (not (is_string x.token.kind)) (x ∷ t) t) h

others_joined : (x : TokenNode) (xs : List TokenNode) → others (with_strings x xs) ≡ others (x ∷ xs)
unfolding with_strings
others_joined x [] = refl
others_joined x (y ∷ ys) =
    let j : TokenNode = record { number = x.number; token = joined x.token y.token; partner = x.partner } in
    elim (is_string x.token.kind && is_string y.token.kind)
    as (λ b. (is_string x.token.kind && is_string y.token.kind) ≡ b → others (cond b (with_strings j ys) (x ∷ with_strings y ys)) ≡ others (x ∷ y ∷ ys)) [
      | true ↦ λ e.
          let p = and_parts (is_string x.token.kind) (is_string y.token.kind) e in
          others_joined j ys ∙ others_string j ys (ap is_string (joined_kind x y) ∙ p.0) ∙ sym (others_string x (y ∷ ys) p.0 ∙ others_string y ys p.1)
      | false ↦ λ e. others_head x (with_strings y ys) (y ∷ ys) (others_joined y ys)
    ] refl

pub others_are_kept : (nodes new : List TokenNode) → IsSimplified nodes new → IsSublist (filter (λ x. not (is_string x.token.kind)) new) nodes
others_are_kept nodes new s =
    subst (λ t. IsSublist t nodes) (sym (ap others s.2 ∙ all_others s.0))
    (sub_on (others s.0) s.0 nodes (sub_filter (λ x. not (is_string x.token.kind)) s.0) (left_sub s.1))
  where
    all_others : (xs : List TokenNode) → others (strings_joined xs) ≡ others xs
    all_others [] = refl
    all_others (x ∷ xs) = others_joined x xs
