-- The numbers of names stay as more names come.
use Rattle.std.proofs.Common.{◌≡◌, ℕ, ◌+◌, List, [], ◌∷◌, ◌++◌, Option, Some, None, Bool, true, false, refl, sym, ap, ap₂, ◌∙◌, cond, filter, map, bytes_eq}
use Rattle.std.specs.Prelude.{◌||◌, not}
use Rattle.std.proofs.lemmas.Slice.Eq.{bytes_eq-Decides}
use Rattle.std.specs.Prelude.{Decides}
use Rattle.std.specs.List.{list_any, position_or_len}
use Rattle.std.proofs.lemmas.List.{append_assoc, append-nil}
use Rattle.indexmap.specs.IndexSet.{insert_all, insert_key}
use Rattle.cx_tokens.specs.declared.token.Kind.{Kind}
use Rattle.cx_tokens.specs.declared.token.Kind.TheVariants as kind
use Rattle.cx_tokens.specs.declared.token.Token.{Token}
use Rattle.cx_syntax_tree.specs.declared.terminals.Keyword.{Keyword}
use Rattle.cx_syntax_tree.specs.declared.terminals.Terminal.TheVariants as terminal_is
use Rattle.cx_terminals.specs.Terminals.{identifiers, is_identifier, is_identifier_of, is_no_keyword, kind_terminal, word_terminal, keywords, lexemes, lexemes_from, looked_up, names_of, terminal_of}
use Rattle.cx_terminals.specs.Shapes.Names.{lexemes_after, with_identifier, with_identifiers, with_word}

-- a text is equal to itself
bytes_eq_self : (name : List ℕ) → bytes_eq name name ≡ true
bytes_eq_self name = by (bytes_eq name name) (bytes_eq-Decides name name)
  where
    by : (b : Bool) → Decides b (name ≡ name) → b ≡ true
    by true d = refl
    by false d = d.1 refl

or_true : (b : Bool) {c : Bool} → c ≡ true → (b || c) ≡ true
or_true true h = refl
or_true false h = h

-- more names come behind
grown : (names : List (List ℕ)) (ts : List Token) → (ys : List (List ℕ)) × (with_identifiers names ts ≡ names ++ ys)
grown names [] = ([], sym (append-nil names))
grown names (t ∷ ts) =
    let one = one_more names t in
    let more = grown (with_identifier names t) ts in
    (one.0 ++ more.0, more.1 ∙ ap (λ ns. ns ++ more.0) one.1 ∙ append_assoc names one.0 more.0)
  where
    key : (b : Bool) (ns : List (List ℕ)) (n : List ℕ) → (ys : List (List ℕ)) × (cond b ns (ns ++ n ∷ []) ≡ ns ++ ys)
    key true ns n = ([], sym (append-nil ns))
    key false ns n = (n ∷ [], refl)

    by : (b : Bool) (ns : List (List ℕ)) (n : List ℕ) → (ys : List (List ℕ)) × (cond b (insert_key bytes_eq ns n) ns ≡ ns ++ ys)
    by true ns n = key (list_any (bytes_eq n) ns) ns n
    by false ns n = ([], sym (append-nil ns))

    one_more : (ns : List (List ℕ)) (t : Token) → (ys : List (List ℕ)) × (with_identifier ns t ≡ ns ++ ys)
    one_more ns t = by (is_identifier t) ns t.text

-- a name that is there is found there
found_before : (test : List ℕ → Bool) (xs ys : List (List ℕ)) → list_any test xs ≡ true
    → position_or_len test (xs ++ ys) ≡ position_or_len test xs
found_before test [] ys h = absurd cc
found_before test (x ∷ xs) ys h = by (test x) h (found_before test xs ys)
  where
    by : (b : Bool) → (b || list_any test xs) ≡ true
        → (list_any test xs ≡ true → position_or_len test (xs ++ ys) ≡ position_or_len test xs)
        → cond (not b) (1 + position_or_len test (xs ++ ys)) 0 ≡ cond (not b) (1 + position_or_len test xs) 0
    by true h r = refl
    by false h r = ap (λ n. 1 + n) (r h)

-- a name that was put in is there
put_in : (names : List (List ℕ)) (name : List ℕ) → list_any (bytes_eq name) (insert_key bytes_eq names name) ≡ true
put_in names name = by (list_any (bytes_eq name) names) refl
  where
    at_end : (xs : List (List ℕ)) → list_any (bytes_eq name) (xs ++ name ∷ []) ≡ true
    at_end [] = rw (bytes_eq_self name) refl
    at_end (x ∷ xs) = or_true (bytes_eq name x) (at_end xs)

    by : (b : Bool) → list_any (bytes_eq name) names ≡ b
        → list_any (bytes_eq name) (cond b names (names ++ name ∷ [])) ≡ true
    by true h = h
    by false h = at_end names

-- .. at the end where it is new
put_last : (name : List ℕ) (xs : List (List ℕ)) → list_any (bytes_eq name) xs ≡ false
    → position_or_len (bytes_eq name) (xs ++ name ∷ []) ≡ position_or_len (bytes_eq name) xs
put_last name [] h = rw (bytes_eq_self name) refl
put_last name (x ∷ xs) h = on (bytes_eq name x) h (put_last name xs)
  where
    on : (b : Bool) → (b || list_any (bytes_eq name) xs) ≡ false
        → (list_any (bytes_eq name) xs ≡ false
        → position_or_len (bytes_eq name) (xs ++ name ∷ []) ≡ position_or_len (bytes_eq name) xs)
        → cond (not b) (1 + position_or_len (bytes_eq name) (xs ++ name ∷ [])) 0
        ≡ cond (not b) (1 + position_or_len (bytes_eq name) xs) 0
    on true h r = absurd cc
    on false h r = ap (λ n. 1 + n) (r h)

-- .. at the place that it was given
pub put_at : (names new : List (List ℕ)) (name : List ℕ) → new ≡ insert_key bytes_eq names name
    → position_or_len (bytes_eq name) names ≡ position_or_len (bytes_eq name) new
put_at names new name e =
    sym (ap (position_or_len (bytes_eq name)) e ∙ by (list_any (bytes_eq name) names) refl)
  where
    by : (b : Bool) → list_any (bytes_eq name) names ≡ b
        → position_or_len (bytes_eq name) (cond b names (names ++ name ∷ [])) ≡ position_or_len (bytes_eq name) names
    by true h = refl
    by false h = put_last name names h

-- the terminal of a word stays as more names come
word_stays : (names ys : List (List ℕ)) (text : List ℕ)
    → word_terminal (with_word names text ++ ys) text (looked_up text keywords)
    ≡ word_terminal (with_word names text) text (looked_up text keywords)
word_stays names ys text = by (looked_up text keywords)
  where
    by : (k : Option Keyword)
        → word_terminal (cond (is_no_keyword k) (insert_key bytes_eq names text) names ++ ys) text k
        ≡ word_terminal (cond (is_no_keyword k) (insert_key bytes_eq names text) names) text k
    by (Some k) = refl
    by None = ap terminal_is.Name (found_before (bytes_eq text) (insert_key bytes_eq names text) ys (put_in names text))

-- .. and that of a token
stays : (names ys : List (List ℕ)) (t : Token)
    → terminal_of (with_identifier names t ++ ys) t ≡ terminal_of (with_identifier names t) t
unfolding terminal_of is_identifier
stays names ys t = by t.kind
  where
    by : (k : Kind)
        → kind_terminal (cond (is_identifier_of k t.text) (insert_key bytes_eq names t.text) names ++ ys) k t.text
        ≡ kind_terminal (cond (is_identifier_of k t.text) (insert_key bytes_eq names t.text) names) k t.text
    by kind.Name = word_stays names ys t.text
    by kind.Number = refl
    by kind.Char = refl
    by kind.String = refl
    by kind.Unclosed = refl
    by kind.Header = refl
    by kind.Punct = refl
    by kind.Other = refl

-- .. and is the one by all names
all_lexemes : (names : List (List ℕ)) (n : ℕ) (ts : List Token)
    → lexemes_after names n ts ≡ lexemes_from (with_identifiers names ts) n ts
unfolding lexemes_after lexemes_from
all_lexemes names n [] = refl
all_lexemes names n (t ∷ ts) =
    let more = grown (with_identifier names t) ts in
    ap₂ (λ x xs. record { terminal = x; at = n } ∷ xs)
    (sym (ap (λ ns. terminal_of ns t) more.1 ∙ stays names more.0 t))
    (all_lexemes (with_identifier names t) (n + 1) ts)

-- the names one token after the other are those of the identifiers
all_names : (names : List (List ℕ)) (ts : List Token)
    → with_identifiers names ts ≡ insert_all bytes_eq names (identifiers ts)
all_names names [] = refl
all_names names (t ∷ ts) = by (is_identifier t) (λ ns. all_names ns ts)
  where
    by : (b : Bool) → ((ns : List (List ℕ)) → with_identifiers ns ts ≡ insert_all bytes_eq ns (identifiers ts))
        → with_identifiers (cond b (insert_key bytes_eq names t.text) names) ts
        ≡ insert_all bytes_eq names (map (λ u. u.text) (cond b (t ∷ filter is_identifier ts) (filter is_identifier ts)))
    by true r = r (insert_key bytes_eq names t.text)
    by false r = r names

pub their_names : (ts : List Token) → with_identifiers [] ts ≡ names_of ts
unfolding names_of
their_names ts = all_names [] ts

pub their_lexemes : (ts : List Token) → lexemes_after [] 0 ts ≡ lexemes ts
unfolding lexemes names_of
their_lexemes ts = all_lexemes [] 0 ts ∙ ap (λ ns. lexemes_from ns 0 ts) (all_names [] ts)
