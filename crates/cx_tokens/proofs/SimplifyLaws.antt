-- The sweep simplifies no more where it has been.
use Rattle.std.proofs.Common.{◌≡◌, ℕ, List, [], ◌∷◌, ◌++◌, Option, Some, None, true, false, refl, sym, ap, ◌∙◌, subst, append_assoc, cond, codes}
use Rattle.std.specs.List.{AllByRecursion}
use Rattle.std.proofs.lemmas.Bool.{and_from, and_left, and_parts, cond-true, cond-false, not-true, not_from_false}
use Rattle.cx_tokens.specs.declared.token.Kind.{Kind}
use Rattle.cx_tokens.specs.declared.token.Kind.TheVariants as kinds
use Rattle.cx_tokens.specs.declared.token.Token.{Token}
use Rattle.cx_tokens.specs.Nodes.{TokenNode}
use Rattle.cx_tokens.specs.Brackets.{is_punctuator}
use Rattle.cx_tokens.specs.Simplified.{attribute_words, is_name, is_string, is_word_of, joined, lone_words, strings_joined, with_strings}
use Rattle.cx_tokens.specs.Shapes.Sweeping.{State, AfterWord, Plain, Within, state_after, are_strings, state_at, joined_node, node_stays, staying_nodes, all_joined_to_end, joined_to_end, skipping}
use Rattle.cx_tokens.proofs.SweepLaws.{put_all_append, put_last}

-- ---- the state after a word

pub behind_entered : (x : TokenNode) (xs : List TokenNode) (state : State) → state_at AfterWord x ≡ state_at state x → staying_nodes AfterWord (x ∷ xs) ≡ staying_nodes state (x ∷ xs)
unfolding staying_nodes
behind_entered x xs state e =
    ap (λ s. cond (node_stays s x) (x ∷ staying_nodes (state_after s x) xs) (staying_nodes (state_after s x) xs)) e

pub at_opening : (x : TokenNode) (o : Option ℕ) → is_punctuator (codes "(") x.token ≡ true → x.partner ≡ o → state_at AfterWord x ≡ state_at (skipping o) x
unfolding state_at
at_opening x None b e = cond-true (is_punctuator (codes "(") x.token) (skipping x.partner) Plain b ∙ ap skipping e
at_opening x (Some n) b e = cond-true (is_punctuator (codes "(") x.token) (skipping x.partner) Plain b ∙ ap skipping e

pub at_other : (x : TokenNode) → is_punctuator (codes "(") x.token ≡ false → state_at AfterWord x ≡ state_at Plain x
unfolding state_at
at_other x b = cond-false (is_punctuator (codes "(") x.token) (skipping x.partner) Plain b

-- ---- strings are joined one after another

joined_behind : (d : List TokenNode) (x : TokenNode) (ys : List TokenNode) → all_joined_to_end (d ++ x ∷ []) ys ≡ d ++ with_strings x ys
unfolding all_joined_to_end with_strings are_strings joined_node
joined_behind d x [] = refl
joined_behind d x (y ∷ ys) =
    let j = joined_node x y in
    ap (λ t. all_joined_to_end t ys) (put_last d x y)
    ∙ elim (are_strings x y)
    as (λ b. all_joined_to_end (cond b (d ++ j ∷ []) (d ++ x ∷ y ∷ [])) ys ≡ d ++ cond b (with_strings j ys) (x ∷ with_strings y ys)) [
      | true ↦ joined_behind d j ys
      | false ↦ ap (λ t. all_joined_to_end t ys) (sym (append_assoc d (x ∷ []) (y ∷ []))) ∙ joined_behind (d ++ x ∷ []) y ys ∙ append_assoc d (x ∷ []) (with_strings y ys)
    ]

pub all_joined : (xs : List TokenNode) → all_joined_to_end [] xs ≡ strings_joined xs
unfolding all_joined_to_end joined_to_end
all_joined [] = refl
all_joined (x ∷ xs) = joined_behind [] x xs

-- ---- plain nodes

abbrev pub ArePlain : List TokenNode → Type 0
ArePlain xs = AllByRecursion (λ x. node_stays Plain x ≡ true) xs

pub stays_plain : (state : State) (x : TokenNode) → node_stays state x ≡ true → state ≡ Plain
unfolding node_stays
stays_plain Plain x h = refl
stays_plain AfterWord x h = absurd cc
stays_plain (Within n) x h = absurd cc

pub kept_plain_all : (state : State) (xs : List TokenNode) → ArePlain (staying_nodes state xs)
unfolding staying_nodes
kept_plain_all state [] = tt
kept_plain_all state (x ∷ xs) =
    let next = state_after (state_at state x) x in
    let h = kept_plain_all next xs in
    elim (node_stays (state_at state x) x)
    as (λ b. node_stays (state_at state x) x ≡ b → ArePlain (cond b (x ∷ staying_nodes next xs) (staying_nodes next xs)))
    [ true ↦ λ k. (subst (λ s. node_stays s x ≡ true) (stays_plain (state_at state x) x k) k, h) | false ↦ λ k. h ] refl

string_no_name : (k : Kind) → is_string k ≡ true → is_name k ≡ false
string_no_name kinds.Name h = absurd cc
string_no_name kinds.Number h = refl
string_no_name kinds.Char h = refl
string_no_name kinds.String h = refl
string_no_name kinds.Unclosed h = refl
string_no_name kinds.Header h = refl
string_no_name kinds.Punct h = refl
string_no_name kinds.Other h = refl

no_word : (words : List (List ℕ)) (t : Token) → is_name t.kind ≡ false → is_word_of words t ≡ false
unfolding is_word_of
no_word words t h = and_left _ _ h

pub string_plain : (x : TokenNode) → is_string x.token.kind ≡ true → node_stays Plain x ≡ true
unfolding node_stays
string_plain x h =
    let n = string_no_name x.token.kind h in
    and_from _ _ (not_from_false _ (no_word attribute_words x.token n)) (not_from_false _ (no_word lone_words x.token n))

joined_plain : (x y : TokenNode) → are_strings x y ≡ true → node_stays Plain (joined_node x y) ≡ true
unfolding are_strings joined_node joined
joined_plain x y h = string_plain (joined_node x y) (and_parts _ _ h).0

put_plain : (d : List TokenNode) (y : TokenNode) → ArePlain d → node_stays Plain y ≡ true → ArePlain (joined_to_end d y)
unfolding joined_to_end
put_plain [] y h k = (k, tt)
put_plain (x ∷ []) y h k =
    elim (are_strings x y) as (λ b. are_strings x y ≡ b → ArePlain (cond b (joined_node x y ∷ []) (x ∷ y ∷ [])))
    [ true ↦ λ s. (joined_plain x y s, tt) | false ↦ λ s. (h.0, (k, tt)) ] refl
put_plain (x ∷ z ∷ xs) y h k = (h.0, put_plain (z ∷ xs) y h.1 k)

pub put_all_plain : (d xs : List TokenNode) → ArePlain d → ArePlain xs → ArePlain (all_joined_to_end d xs)
unfolding all_joined_to_end
put_all_plain d [] h k = h
put_all_plain d (x ∷ xs) h k = put_all_plain (joined_to_end d x) xs (put_plain d x h k.0) k.1

pub plain_after : (x : TokenNode) → node_stays Plain x ≡ true → state_after Plain x ≡ Plain
unfolding node_stays state_after
plain_after x h = cond-false (is_word_of attribute_words x.token) AfterWord Plain (not-true (is_word_of attribute_words x.token) (and_parts _ _ h).0)

pub plain_kept : (d rest : List TokenNode) → ArePlain d → staying_nodes Plain (d ++ rest) ≡ d ++ staying_nodes Plain rest
unfolding staying_nodes state_at
plain_kept [] rest h = refl
plain_kept (x ∷ d) rest h =
    cond-true (node_stays Plain x) (x ∷ staying_nodes (state_after Plain x) (d ++ rest)) (staying_nodes (state_after Plain x) (d ++ rest)) h.0
    ∙ ap (λ s. x ∷ staying_nodes s (d ++ rest)) (plain_after x h.0) ∙ ap (λ t. x ∷ t) (plain_kept d rest h.1)

-- ---- no strings side by side

abbrev pub AreApart : List TokenNode → Type 0
AreApart [] = Unit {0}
AreApart (x ∷ []) = Unit {0}
AreApart (x ∷ y ∷ xs) = (are_strings x y ≡ false) × AreApart (y ∷ xs)

joined_first : (x y z : TokenNode) → are_strings z (joined_node x y) ≡ are_strings z x
unfolding are_strings joined_node joined
joined_first x y z = refl

put_apart : (d : List TokenNode) (y : TokenNode) → AreApart d → AreApart (joined_to_end d y)
unfolding joined_to_end
put_apart [] y h = tt
put_apart (x ∷ []) y h =
    elim (are_strings x y) as (λ b. are_strings x y ≡ b → AreApart (cond b (joined_node x y ∷ []) (x ∷ y ∷ [])))
    [ true ↦ λ s. tt | false ↦ λ s. (s, tt) ] refl
put_apart (x ∷ z ∷ []) y h =
    elim (are_strings z y) as (λ b. are_strings z y ≡ b → AreApart (x ∷ cond b (joined_node z y ∷ []) (z ∷ y ∷ [])))
    [ true ↦ λ s. (joined_first z y x ∙ h.0, tt) | false ↦ λ s. (h.0, (s, tt)) ] refl
put_apart (x ∷ z ∷ w ∷ xs) y h = (h.0, put_apart (z ∷ w ∷ xs) y h.1)

pub put_all_apart : (d xs : List TokenNode) → AreApart d → AreApart (all_joined_to_end d xs)
unfolding all_joined_to_end
put_all_apart d [] h = h
put_all_apart d (x ∷ xs) h = put_all_apart (joined_to_end d x) xs (put_apart d x h)

pub apart_last : (d : List TokenNode) (y x : TokenNode) (xs : List TokenNode) → AreApart (d ++ y ∷ x ∷ xs) → are_strings y x ≡ false
apart_last [] y x xs h = h.0
apart_last (z ∷ []) y x xs h = h.1.0
apart_last (z ∷ w ∷ d) y x xs h = apart_last (w ∷ d) y x xs h.1

apart_behind : (d : List TokenNode) (y : TokenNode) (xs : List TokenNode) → AreApart (d ++ y ∷ xs) → all_joined_to_end (d ++ y ∷ []) xs ≡ d ++ y ∷ xs
unfolding all_joined_to_end
apart_behind d y [] h = refl
apart_behind d y (x ∷ xs) h =
    ap (λ t. all_joined_to_end t xs) (put_last d y x ∙ cond-false (are_strings y x) _ _ (apart_last d y x xs h) ∙ sym (append_assoc d (y ∷ []) (x ∷ [])))
    ∙ apart_behind (d ++ y ∷ []) x xs (subst AreApart (sym (append_assoc d (y ∷ []) (x ∷ xs))) h)
    ∙ append_assoc d (y ∷ []) (x ∷ xs)

pub apart_same : (xs : List TokenNode) → AreApart xs → all_joined_to_end [] xs ≡ xs
unfolding all_joined_to_end joined_to_end
apart_same [] h = refl
apart_same (x ∷ xs) h = apart_behind [] x xs h

-- ---- what is simplified stays so

pub swept_plain : (xs : List TokenNode) → ArePlain (all_joined_to_end [] (staying_nodes Plain xs))
swept_plain xs = put_all_plain [] (staying_nodes Plain xs) tt (kept_plain_all Plain xs)

pub swept_apart : (xs : List TokenNode) → AreApart (all_joined_to_end [] (staying_nodes Plain xs))
swept_apart xs = put_all_apart [] (staying_nodes Plain xs) tt

pub sweep_more : (xs rest : List TokenNode) → all_joined_to_end [] (staying_nodes Plain (all_joined_to_end [] (staying_nodes Plain xs) ++ rest)) ≡ all_joined_to_end (all_joined_to_end [] (staying_nodes Plain xs)) (staying_nodes Plain rest)
sweep_more xs rest =
    let d = all_joined_to_end [] (staying_nodes Plain xs) in
    ap (all_joined_to_end []) (plain_kept d rest (swept_plain xs)) ∙ put_all_append [] d (staying_nodes Plain rest) ∙ ap (λ t. all_joined_to_end t (staying_nodes Plain rest)) (apart_same d (swept_apart xs))

pub stays_same : (state : State) (x : TokenNode) (xs : List TokenNode) → node_stays (state_at state x) x ≡ true → staying_nodes state (x ∷ xs) ≡ staying_nodes Plain (x ∷ xs)
unfolding staying_nodes state_at
stays_same state x xs h =
    let e : state_at state x ≡ state_at Plain x = stays_plain (state_at state x) x h ∙ entered_plain x in
    ap (λ s. cond (node_stays s x) (x ∷ staying_nodes (state_after s x) xs) (staying_nodes (state_after s x) xs)) e
  where
    entered_plain : (x : TokenNode) → Plain ≡ state_at Plain x
    entered_plain x = refl
