-- Tokens have one list of parts.
use Rattle.std.proofs.Common.{◌≡◌, List, [], ◌∷◌, ◌++◌, refl, sym, ap, ap₂, ◌∙◌, subst}
use Rattle.std.proofs.lemmas.List.{append_assoc}
use Rattle.cx_syntax_tree.specs.declared.terminals.Lexeme.{Lexeme}
use Rattle.cx_items.specs.declared.outline.PartKind.{PartKind}
use Rattle.cx_items.specs.declared.outline.Bracket.{Bracket}
use Rattle.cx_items.specs.declared.outline.Bracket.TheVariants as bracket
use Rattle.cx_items.specs.Brackets.{IsParts, Part, a_group, a_token, alone, group, no_parts}
use Rattle.cx_items.specs.Shapes.Outlines.{bracket_of}
use Rattle.cx_items.proofs.OutlineLaws.{closing_of, opening_of, plain_token}

-- a token is one of three things
plain_or_closing : {b : Bracket} {k : PartKind} → b ≡ bracket.Plain k → b ≡ bracket.Closing → ⊥
plain_or_closing h g = let e = sym h ∙ g in absurd cc

plain_or_opening : {b : Bracket} {k l : PartKind} → b ≡ bracket.Plain k → b ≡ bracket.Opening l → ⊥
plain_or_opening h g = let e = sym h ∙ g in absurd cc

opening_or_closing : {b : Bracket} {l : PartKind} → b ≡ bracket.Opening l → b ≡ bracket.Closing → ⊥
opening_or_closing h g = let e = sym h ∙ g in absurd cc

IsClosing : Lexeme → Type 0
IsClosing q = bracket_of q.terminal ≡ bracket.Closing

first : {A : Type 0} {x y : A} {xs ys : List A} → x ∷ xs ≡ y ∷ ys → x ≡ y
first h = cc

rest : {A : Type 0} {x y : A} {xs ys : List A} → x ∷ xs ≡ y ∷ ys → xs ≡ ys
rest h = cc

-- paired tokens do not begin with a closing bracket
no_closing_first : {q : Lexeme} {ts : List Lexeme} {parts : List Part} → IsParts (q ∷ ts) parts → IsClosing q → ⊥
unfolding IsClosing
no_closing_first {q} (a_token h more) c = plain_or_closing (plain_token q h).1 c
no_closing_first (a_group {p} {q} e pairs inner more) c =
    opening_or_closing (opening_of p q pairs).1 (subst (λ x. bracket_of x.terminal ≡ bracket.Closing) (first e) c)

-- they end where the closing bracket behind them stands
one_end : {xs ys : List Lexeme} {a b : List Part} → IsParts xs a → IsParts ys b → (q r : Lexeme) (ts us : List Lexeme)
    → IsClosing q → IsClosing r → xs ++ q ∷ ts ≡ ys ++ r ∷ us → (xs ≡ ys) × (q ≡ r) × (ts ≡ us)
unfolding IsClosing
one_end no_parts no_parts q r ts us c d e = (refl, first e, rest e)
one_end no_parts (a_token {p} h more) q r ts us c d e =
    absurd (plain_or_closing (plain_token p h).1 (subst (λ x. bracket_of x.terminal ≡ bracket.Closing) (first e) c))
one_end no_parts (a_group {p} {q = s} {inner = inner} {ts = ys} f pairs i more) q r ts us c d e =
    absurd (opening_or_closing (opening_of p s pairs).1
    (subst (λ x. bracket_of x.terminal ≡ bracket.Closing) (first (e ∙ ap (λ l. l ++ r ∷ us) f)) c))
one_end (a_token {p} h more) no_parts q r ts us c d e =
    absurd (plain_or_closing (plain_token p h).1 (subst (λ x. bracket_of x.terminal ≡ bracket.Closing) (sym (first e)) d))
one_end (a_token {p} h more) (a_token {p = s} g others) q r ts us c d e =
    let i = one_end more others q r ts us c d (rest e) in (ap₂ (λ x l. x ∷ l) (first e) i.0, i.1, i.2)
one_end (a_token {p} h more) (a_group {p = s} {q = z} f pairs i others) q r ts us c d e =
    absurd (plain_or_opening (plain_token p h).1
    (ap (λ x. bracket_of x.terminal) (first (e ∙ ap (λ l. l ++ r ∷ us) f)) ∙ (opening_of s z pairs).1))
one_end (a_group {p} {q = s} f pairs i more) no_parts q r ts us c d e =
    absurd (opening_or_closing (opening_of p s pairs).1
    (subst (λ x. bracket_of x.terminal ≡ bracket.Closing) (sym (first (ap (λ l. l ++ q ∷ ts) (sym f) ∙ e))) d))
one_end (a_group {p} {q = z} f pairs i more) (a_token {p = s} g others) q r ts us c d e =
    absurd (plain_or_opening (plain_token s g).1
    (sym (ap (λ x. bracket_of x.terminal) (first (ap (λ l. l ++ q ∷ ts) (sym f) ∙ e))) ∙ (opening_of p z pairs).1))
one_end (a_group {p} {q = w} {inner = k} {ts = xs} f pairs i more) (a_group {p = s} {q = z} {inner = l} {ts = ys} g others j behind) q r ts us c d e =
    let whole = ap (λ m. m ++ q ∷ ts) (sym f) ∙ e ∙ ap (λ m. m ++ r ∷ us) g in
    let inside = sym (append_assoc k (w ∷ xs) (q ∷ ts)) ∙ rest whole ∙ append_assoc l (z ∷ ys) (r ∷ us) in
    let o = one_end i j w z (xs ++ q ∷ ts) (ys ++ r ∷ us) (closing_of p w pairs) (closing_of s z others) inside in
    let n = one_end more behind q r ts us c d o.2 in (
      f ∙ ap₂ (λ x m. x ∷ m) (first whole) (ap₂ (λ m v. m ++ v) o.0 (ap₂ (λ x m. x ∷ m) o.1 n.0)) ∙ sym g,
      n.1,
      n.2,
    )

-- .. and so have equal parts
parts_one : {xs ys : List Lexeme} {a b : List Part} → IsParts xs a → IsParts ys b → xs ≡ ys → a ≡ b
unfolding IsClosing
parts_one no_parts no_parts e = refl
parts_one no_parts (a_token h more) e = absurd cc
parts_one no_parts (a_group f pairs i more) e = absurd (empty (e ∙ f))
  where
    empty : {x : Lexeme} {l : List Lexeme} → [] ≡ x ∷ l → ⊥
    empty h = absurd cc
parts_one (a_token h more) no_parts e = absurd cc
parts_one (a_group f pairs i more) no_parts e = absurd (empty (sym e ∙ f))
  where
    empty : {x : Lexeme} {l : List Lexeme} → [] ≡ x ∷ l → ⊥
    empty h = absurd cc
parts_one (a_token h more) (a_token g others) e = ap₂ (λ x l. alone x ∷ l) (first e) (parts_one more others (rest e))
parts_one (a_token {p} h more) (a_group {p = s} {q = z} f pairs i others) e =
    absurd (plain_or_opening (plain_token p h).1 (ap (λ x. bracket_of x.terminal) (first (e ∙ f)) ∙ (opening_of s z pairs).1))
parts_one (a_group {p} {q = z} f pairs i more) (a_token {p = s} g others) e =
    absurd (plain_or_opening (plain_token s g).1 (ap (λ x. bracket_of x.terminal) (first (sym e ∙ f)) ∙ (opening_of p z pairs).1))
parts_one (a_group {p} {q = w} {inner = k} {ts = xs} f pairs i more) (a_group {p = s} {q = z} {inner = l} {ts = ys} g others j behind) e =
    let whole = sym f ∙ e ∙ g in
    let o = one_end i j w z xs ys (closing_of p w pairs) (closing_of s z others) (rest whole) in
    ap₂ (λ x m. x ∷ m)
    (ap (λ x. group x k w) (first whole) ∙ ap (λ m. group s m w) o.0 ∙ ap (λ x. group s l x) o.1) (parts_one more behind o.2)

pub same_parts : (ts : List Lexeme) (a b : List Part) → IsParts ts a → IsParts ts b → a ≡ b
same_parts ts a b h g = parts_one h g refl
