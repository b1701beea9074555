-- Tokens whose brackets are nested have parts.
use Rattle.std.proofs.Common.{◌≡◌, arith, ℕ, ◌+◌, List, [], ◌∷◌, ◌++◌, Bool, true, false, Option, Some, None, refl, sym, ap, ◌∙◌, subst, cond, length, codes, bytes_eq}
use Rattle.std.specs.Prelude.{◌||◌, ◌&&◌}
use Rattle.std.specs.List.{list_all, list_any}
use Rattle.std.proofs.lemmas.Slice.Eq.{bytes_eq-Decides}
use Rattle.cx_tokens.specs.declared.token.Kind.{Kind}
use Rattle.cx_tokens.specs.declared.token.Kind.TheVariants as kind
use Rattle.cx_tokens.specs.declared.token.Token.{Token}
use Rattle.cx_tokens.specs.Brackets as brackets
use Rattle.cx_tokens.specs.Brackets.{IsNested, closes, fits, is_punct, is_punctuator, opens}
use Rattle.cx_syntax_tree.specs.declared.terminals.Keyword.{Keyword}
use Rattle.cx_syntax_tree.specs.declared.terminals.Punctuator.{Punctuator}
use Rattle.cx_syntax_tree.specs.declared.terminals.Punctuator.TheVariants as mark
use Rattle.cx_syntax_tree.specs.declared.terminals.Terminal.TheVariants as terminal_is
use Rattle.cx_syntax_tree.specs.declared.terminals.Lexeme.{Lexeme}
use Rattle.cx_terminals.specs.Terminals.{keywords, kind_terminal, lexemes, lexemes_from, looked_up, mark_terminal, names_of, punctuators, terminal_of, word_terminal}
use Rattle.cx_items.specs.Brackets.{IsParts, Pairs, Part, a_group, a_token, alone, closing_mark, group, is_plain, is_plain_mark, is_plain_terminal, no_parts}

-- ---- texts of brackets

-- a text of a bracket
is_bracket_text : List ℕ → Bool
is_bracket_text text =
    list_any (λ pair. bytes_eq pair.0 text) brackets.bracket_pairs || list_any (λ pair. bytes_eq pair.1 text) brackets.bracket_pairs

row_holds : List ℕ × Punctuator → Bool
row_holds row = is_plain_mark row.1 || is_bracket_text row.0

-- each bracket among the punctuators has such a text
all_rows : list_all row_holds punctuators ≡ true
unfolding row_holds is_bracket_text
all_rows = refl

same_text : (a b : List ℕ) → bytes_eq a b ≡ true → a ≡ b
same_text a b h = by (bytes_eq a b) (bytes_eq-Decides a b) h
  where
    by : (c : Bool) → (c ≡ true → a ≡ b) × (a ≡ b → c ≡ true) → c ≡ true → a ≡ b
    by c d h = d.0 h

and_first : (a b : Bool) → (a && b) ≡ true → a ≡ true
and_first true b h = refl
and_first false b h = absurd cc

and_second : (a b : Bool) → (a && b) ≡ true → b ≡ true
and_second true b h = h
and_second false b h = absurd cc

-- what is looked up is plain, where the text is that of no bracket
found_plain : (text : List ℕ) (rows : List (List ℕ × Punctuator)) → list_all row_holds rows ≡ true
    → is_bracket_text text ≡ false → is_plain_terminal (mark_terminal (looked_up text rows)) ≡ true
unfolding looked_up row_holds
found_plain text [] h n = refl
found_plain text (row ∷ rows) h n =
    by (bytes_eq text row.0) refl (found_plain text rows (and_second (row_holds row) (list_all row_holds rows) h) n)
  where
    here : is_plain_mark row.1 || is_bracket_text row.0 ≡ true
    here = and_first (row_holds row) (list_all row_holds rows) h

    either : (a b : Bool) → (a || b) ≡ true → b ≡ false → a ≡ true
    either true b h n = refl
    either false b h n = absurd cc

    by : (c : Bool) → bytes_eq text row.0 ≡ c → is_plain_terminal (mark_terminal (looked_up text rows)) ≡ true
        → is_plain_terminal (mark_terminal (cond c (Some row.1) (looked_up text rows))) ≡ true
    by true e r =
        either (is_plain_mark row.1) (is_bracket_text row.0) here (subst (λ t. is_bracket_text t ≡ false) (same_text text row.0 e) n)
    by false e r = r

-- a token that neither opens nor closes
plain_kind : (names : List (List ℕ)) (k : Kind) (text : List ℕ) → (is_punct k ≡ true → is_bracket_text text ≡ false)
    → is_plain_terminal (kind_terminal names k text) ≡ true
plain_kind names kind.Name text h = by (looked_up text keywords)
  where
    by : (o : Option Keyword) → is_plain_terminal (word_terminal names text o) ≡ true
    by (Some k) = refl
    by None = refl
plain_kind names kind.Number text h = refl
plain_kind names kind.Char text h = refl
plain_kind names kind.String text h = refl
plain_kind names kind.Unclosed text h = refl
plain_kind names kind.Header text h = refl
plain_kind names kind.Punct text h = found_plain text punctuators all_rows (h refl)
plain_kind names kind.Other text h = refl

no_bracket : (t : Token) → opens t ≡ false → closes t ≡ false → is_punct t.kind ≡ true → is_bracket_text t.text ≡ false
unfolding opens closes is_punctuator is_bracket_text
no_bracket t o c k = by (is_punct t.kind) k o c
  where
    neither : (a b : Bool) → a ≡ false → b ≡ false → (a || b) ≡ false
    neither a b h g = subst (λ x. (x || b) ≡ false) (sym h) g

    by : (b : Bool) → b ≡ true → list_any (λ pair. b && bytes_eq pair.0 t.text) brackets.bracket_pairs ≡ false
        → list_any (λ pair. b && bytes_eq pair.1 t.text) brackets.bracket_pairs ≡ false
        → is_bracket_text t.text ≡ false
    by true k o c = neither _ _ o c
    by false k o c = absurd cc

-- ---- brackets as the grammar sees them

abbrev lexeme : List (List ℕ) → ℕ → Token → Lexeme
lexeme names n t = record { terminal = terminal_of names t; at = n }

pub plain_lexeme : (names : List (List ℕ)) (n : ℕ) (t : Token) → opens t ≡ false → closes t ≡ false
    → is_plain (lexeme names n t) ≡ true
unfolding is_plain terminal_of
plain_lexeme names n t o c = plain_kind names t.kind t.text (no_bracket t o c)

-- the terminal of a punctuator of this text
mark_at : (names : List (List ℕ)) (text : List ℕ) (t : Token) → is_punctuator text t ≡ true
    → terminal_of names t ≡ mark_terminal (looked_up text punctuators)
unfolding terminal_of is_punctuator
mark_at names text t h = by t.kind refl (and_first (is_punct t.kind) (bytes_eq text t.text) h)
  where
    same : text ≡ t.text
    same = same_text text t.text (and_second (is_punct t.kind) (bytes_eq text t.text) h)

    by : (k : Kind) → t.kind ≡ k → is_punct k ≡ true → kind_terminal names k t.text ≡ mark_terminal (looked_up text punctuators)
    by kind.Punct e p = ap (λ x. mark_terminal (looked_up x punctuators)) (sym same)
    by kind.Name e p = absurd cc
    by kind.Number e p = absurd cc
    by kind.Char e p = absurd cc
    by kind.String e p = absurd cc
    by kind.Unclosed e p = absurd cc
    by kind.Header e p = absurd cc
    by kind.Other e p = absurd cc

-- a pair of brackets
pub paired : (names : List (List ℕ)) (n m : ℕ) (a b : Token) → fits a b ≡ true → Pairs (lexeme names n a) (lexeme names m b)
unfolding fits looked_up
paired names n m a b h = by _ _ _ h round square curly
  where
    pair_of : (x y : List ℕ) (p q : Punctuator) → mark_terminal (looked_up x punctuators) ≡ terminal_is.Punctuator p
        → mark_terminal (looked_up y punctuators) ≡ terminal_is.Punctuator q → closing_mark p ≡ Some q
        → (is_punctuator x a && is_punctuator y b) ≡ true → Pairs (lexeme names n a) (lexeme names m b)
    pair_of x y p q e f c h = record {
      opening = p;
      closing = q;
      opens = mark_at names x a (and_first (is_punctuator x a) (is_punctuator y b) h) ∙ e;
      closes = mark_at names y b (and_second (is_punctuator x a) (is_punctuator y b) h) ∙ f;
      fits = c;
    }

    round : (is_punctuator (codes "(") a && is_punctuator (codes ")") b) ≡ true → Pairs (lexeme names n a) (lexeme names m b)
    round h = pair_of (codes "(") (codes ")") mark.OpenRound mark.CloseRound refl refl refl h

    square : (is_punctuator (codes "[") a && is_punctuator (codes "]") b) ≡ true → Pairs (lexeme names n a) (lexeme names m b)
    square h = pair_of (codes "[") (codes "]") mark.OpenSquare mark.CloseSquare refl refl refl h

    curly : (is_punctuator (codes "{") a && is_punctuator (codes "}") b) ≡ true → Pairs (lexeme names n a) (lexeme names m b)
    curly h = pair_of (codes "{") (codes "}") mark.OpenCurly mark.CloseCurly refl refl refl h

    by : (x y z : Bool) → (x || (y || (z || false))) ≡ true → (x ≡ true → Pairs (lexeme names n a) (lexeme names m b))
        → (y ≡ true → Pairs (lexeme names n a) (lexeme names m b)) → (z ≡ true → Pairs (lexeme names n a) (lexeme names m b))
        → Pairs (lexeme names n a) (lexeme names m b)
    by true y z h f g k = f refl
    by false true z h f g k = g refl
    by false false true h f g k = k refl
    by false false false h f g k = absurd cc

-- ---- the parts

joined : (names : List (List ℕ)) (n : ℕ) (ts us : List Token)
    → lexemes_from names n (ts ++ us) ≡ lexemes_from names n ts ++ lexemes_from names (n + length ts) us
unfolding lexemes_from
joined names n [] us = ap (λ m. lexemes_from names m us) (omega arith)
joined names n (t ∷ ts) us =
    ap (λ l. lexeme names n t ∷ l)
    (joined names (n + 1) ts us ∙ ap (λ m. lexemes_from names (n + 1) ts ++ lexemes_from names m us) (omega arith))

parts_from : (names : List (List ℕ)) (n : ℕ) (ts : List Token) → IsNested ts
    → (parts : List Part) × IsParts (lexemes_from names n ts) parts
unfolding lexemes_from
parts_from names n _ brackets.nothing = ([], no_parts)
parts_from names n _ (brackets.other {t} {rest} o c more) =
    let r = parts_from names (n + 1) rest more in
    (alone (lexeme names n t) ∷ r.0, a_token (plain_lexeme names n t o c) r.1)
parts_from names n all (brackets.pair a b inner rest e f i more) =
    let m = n + 1 + length inner in
    let ins = parts_from names (n + 1) inner i in
    let r = parts_from names (m + 1) rest more in (
      group (lexeme names n a) (lexemes_from names (n + 1) inner) (lexeme names m b) ∷ r.0,
      a_group (ap (lexemes_from names n) e ∙ ap (λ l. lexeme names n a ∷ l) (joined names (n + 1) inner (b ∷ rest)))
          (paired names n m a b f) ins.1 r.1,
    )

pub have_parts : (ts : List Token) → IsNested ts → (parts : List Part) × IsParts (lexemes ts) parts
unfolding lexemes
have_parts ts h = parts_from (names_of ts) 0 ts h
