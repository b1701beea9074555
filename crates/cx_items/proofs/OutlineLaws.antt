-- The outermost parts of tokens whose brackets are paired.
use Rattle.std.proofs.Common.{◌≡◌, arith, ℕ, suc, ◌+◌, ◌-◌, List, [], ◌∷◌, ◌++◌, true, Some, refl, sym, ap, ap₂, ◌∙◌, length}
use Rattle.std.proofs.lemmas.List.{append_assoc, length-append}
use Rattle.cx_syntax_tree.specs.declared.terminals.Punctuator.{Punctuator}
use Rattle.cx_syntax_tree.specs.declared.terminals.Punctuator.TheVariants as mark
use Rattle.cx_syntax_tree.specs.declared.terminals.Terminal.{Terminal}
use Rattle.cx_syntax_tree.specs.declared.terminals.Terminal.TheVariants as terminal_is
use Rattle.cx_syntax_tree.specs.declared.terminals.Lexeme.{Lexeme}
use Rattle.cx_items.specs.declared.outline.Outermost.{Outermost}
use Rattle.cx_items.specs.declared.outline.PartKind.{PartKind}
use Rattle.cx_items.specs.declared.outline.PartKind.TheVariants as part
use Rattle.cx_items.specs.declared.outline.Bracket.{Bracket}
use Rattle.cx_items.specs.declared.outline.Bracket.TheVariants as bracket
use Rattle.cx_items.specs.Brackets.{IsParts, Pairs, Part, a_group, a_token, alone, closing_mark, group, is_plain, is_plain_mark, is_plain_terminal, no_parts, spelled, tokens_of}
use Rattle.cx_items.specs.Shapes.Outlines.{added, bracket_of, bracket_of_mark, depth_behind, outline}

-- what a token without partner is
abbrev pub plain_kind : Bracket → PartKind
plain_kind (bracket.Plain kind) = kind
plain_kind _ = part.Other

-- what a pair of brackets is
abbrev pub group_kind : Bracket → PartKind
group_kind (bracket.Opening kind) = kind
group_kind _ = part.Other

-- what a part is to the end of an item
unfoldable pub kind_of : Part → PartKind
kind_of (alone p) = plain_kind (bracket_of p.terminal)
kind_of (group p inner q) = group_kind (bracket_of p.terminal)

-- parts with the numbers of their first tokens
unfoldable pub outermost : ℕ → List Part → List Outermost
outermost n [] = []
outermost n (x ∷ xs) = record { kind = kind_of x; first = n } ∷ outermost (n + length (spelled x)) xs

-- a token that is no bracket
abbrev pub IsPlain : Bracket → Type 0
IsPlain b = (kind : PartKind) × (b ≡ bracket.Plain kind)

plain_marks : (m : Punctuator) → is_plain_mark m ≡ true → IsPlain (bracket_of_mark m)
plain_marks mark.OpenRound h = absurd cc
plain_marks mark.OpenCurly h = absurd cc
plain_marks mark.OpenSquare h = absurd cc
plain_marks mark.CloseRound h = absurd cc
plain_marks mark.CloseCurly h = absurd cc
plain_marks mark.CloseSquare h = absurd cc
plain_marks mark.Semicolon h = (part.Semicolon, refl)
plain_marks mark.Equal h = (part.Equal, refl)
plain_marks _ h = (part.Other, refl)

plain_terminals : (t : Terminal) → is_plain_terminal t ≡ true → IsPlain (bracket_of t)
unfolding bracket_of
plain_terminals (terminal_is.Punctuator m) h = plain_marks m h
plain_terminals (terminal_is.Name n) h = (part.Word, refl)
plain_terminals (terminal_is.TypeName n) h = (part.Word, refl)
plain_terminals (terminal_is.Keyword k) h = (part.Word, refl)
plain_terminals terminal_is.Number h = (part.Other, refl)
plain_terminals terminal_is.Char h = (part.Other, refl)
plain_terminals terminal_is.String h = (part.Other, refl)
plain_terminals terminal_is.Foreign h = (part.Other, refl)

pub plain_token : (p : Lexeme) → is_plain p ≡ true → IsPlain (bracket_of p.terminal)
unfolding is_plain
plain_token p h = plain_terminals p.terminal h

-- an opening bracket
opened : (m n : Punctuator) → closing_mark m ≡ Some n → (kind : PartKind) × (bracket_of_mark m ≡ bracket.Opening kind)
opened mark.OpenRound n h = (part.Round, refl)
opened mark.OpenCurly n h = (part.Braces, refl)
opened mark.OpenSquare n h = (part.Other, refl)
opened _ n h = absurd cc

closed : (m n : Punctuator) → closing_mark m ≡ Some n → bracket_of_mark n ≡ bracket.Closing
closed mark.OpenRound n h = sym (ap bracket_of_mark (some_mark h))
  where
    some_mark : {a b : Punctuator} → Some a ≡ Some b → a ≡ b
    some_mark h = cc
closed mark.OpenCurly n h = sym (ap bracket_of_mark (some_mark h))
  where
    some_mark : {a b : Punctuator} → Some a ≡ Some b → a ≡ b
    some_mark h = cc
closed mark.OpenSquare n h = sym (ap bracket_of_mark (some_mark h))
  where
    some_mark : {a b : Punctuator} → Some a ≡ Some b → a ≡ b
    some_mark h = cc
closed _ n h = absurd cc

pub opening_of : (p q : Lexeme) → Pairs p q → (kind : PartKind) × (bracket_of p.terminal ≡ bracket.Opening kind)
unfolding bracket_of
opening_of p q h =
    let o = opened h.opening h.closing h.fits in (o.0, ap bracket_of h.opens ∙ o.1)

pub closing_of : (p q : Lexeme) → Pairs p q → bracket_of q.terminal ≡ bracket.Closing
unfolding bracket_of
closing_of p q h = ap bracket_of h.closes ∙ closed h.opening h.closing h.fits

-- one step
stepped : (d n : ℕ) (p : Lexeme) (ts : List Lexeme) (b : Bracket) → bracket_of p.terminal ≡ b
    → outline d n (p ∷ ts) ≡ added d n b ++ outline (depth_behind d b) (n + 1) ts
unfolding outline
stepped d n p ts b h = ap (λ b. added d n b ++ outline (depth_behind d b) (n + 1) ts) h

-- the tokens in brackets add nothing
inside : (d n : ℕ) (ts rest : List Lexeme) (parts : List Part) → IsParts ts parts
    → outline (suc d) n (ts ++ rest) ≡ outline (suc d) (n + length ts) rest
inside d n _ rest _ no_parts = ap (λ m. outline (suc d) m rest) (omega arith)
inside d n _ rest _ (a_token {p} {ts} {parts} h more) =
    let k = plain_token p h in
    stepped (suc d) n p (ts ++ rest) (bracket.Plain k.0) k.1
    ∙ inside d (n + 1) ts rest parts more
    ∙ ap (λ m. outline (suc d) m rest) (omega arith)
inside d n all rest _ (a_group {p} {q} {inner = inner} {ts} {within} {parts} e pairs inn more) =
    let o = opening_of p q pairs in
    ap (λ l. outline (suc d) n (l ++ rest)) e
    ∙ ap (λ l. outline (suc d) n (p ∷ l)) (append_assoc inner (q ∷ ts) rest)
    ∙ stepped (suc d) n p (inner ++ q ∷ (ts ++ rest)) (bracket.Opening o.0) o.1
    ∙ ap (λ k. outline k (n + 1) (inner ++ q ∷ (ts ++ rest))) (deeper d)
    ∙ inside (suc d) (n + 1) inner (q ∷ (ts ++ rest)) within inn
    ∙ stepped (suc (suc d)) (n + 1 + length inner) q (ts ++ rest) bracket.Closing (closing_of p q pairs)
    ∙ ap (λ k. outline k (n + 1 + length inner + 1) (ts ++ rest)) (shallower d)
    ∙ inside d (n + 1 + length inner + 1) ts rest parts more
    ∙ ap (λ m. outline (suc d) m rest) (omega (arith, ap length e, length-append inner (q ∷ ts)))
  where
    deeper : (d : ℕ) → suc d + 1 ≡ suc (suc d)
    deeper d = omega arith

    shallower : (d : ℕ) → suc (suc d) - 1 ≡ suc d
    shallower d = omega arith

none_outlined : (n : ℕ) → outline 0 n [] ≡ []
unfolding outline
none_outlined n = refl

-- the outline of tokens is that of their parts
pub outlined : (n : ℕ) (ts : List Lexeme) (parts : List Part) → IsParts ts parts
    → outline 0 n ts ≡ outermost n parts
unfolding outermost kind_of
outlined n _ _ no_parts = none_outlined n
outlined n _ _ (a_token {p} {ts} {parts} h more) =
    let k = plain_token p h in
    stepped 0 n p ts (bracket.Plain k.0) k.1
    ∙ ap₂ (λ kind l. record { kind = kind; first = n } ∷ l) (ap plain_kind (sym k.1))
    (outlined (n + 1) ts parts more)
outlined n all _ (a_group {p} {q} {inner = inner} {ts} {within} {parts} e pairs inn more) =
    let o = opening_of p q pairs in
    ap (outline 0 n) e
    ∙ stepped 0 n p (inner ++ q ∷ ts) (bracket.Opening o.0) o.1
    ∙ ap₂ (λ kind l. record { kind = kind; first = n } ∷ l) (ap group_kind (sym o.1))
    (inside 0 (n + 1) inner (q ∷ ts) within inn
    ∙ stepped 1 (n + 1 + length inner) q ts bracket.Closing (closing_of p q pairs)
    ∙ ap (λ m. outline 0 m ts) (omega (arith, length-append inner (q ∷ [])))
    ∙ outlined (n + length (p ∷ (inner ++ q ∷ []))) ts parts more)

-- the tokens of parts
pub all_tokens : (ts : List Lexeme) (parts : List Part) → IsParts ts parts → tokens_of parts ≡ ts
unfolding tokens_of
all_tokens _ _ no_parts = refl
all_tokens _ _ (a_token {p} {ts} {parts} h more) = ap (λ l. p ∷ l) (all_tokens ts parts more)
all_tokens all _ (a_group {p} {q} {inner = inner} {ts} {within} {parts} e pairs inn more) =
    ap (λ l. p ∷ ((inner ++ q ∷ []) ++ l)) (all_tokens ts parts more)
    ∙ ap (λ l. p ∷ l) (append_assoc inner (q ∷ []) ts) ∙ sym e
