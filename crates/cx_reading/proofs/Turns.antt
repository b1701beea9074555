-- A row that is read turn by turn, beside a loop that counts up.
use Rattle.std.proofs.Common.{◌≡◌, refl, ap, sym, ◌∙◌, ℕ, suc, ◌+◌, ◌-◌, ◌<◌, ◌≤◌, List, [], ◌∷◌, ◌++◌, length, Option, Some, None, append_assoc, arith}
use Rattle.std.proofs.lemmas.List.{append-nil}
use Rattle.cx_syntax_tree.specs.declared.terminals.Lexeme.{Lexeme}
use Rattle.cx_reading.specs.Parsing.{Parser, and_then, behind, many_step, many_from, many}

behind_nothing : {A : Type 0} (o : Option (List A × List Lexeme)) → behind [] o ≡ o
behind_nothing None = refl
behind_nothing (Some read) = refl

behind_behind : {A : Type 0} (found : List A) (x : A) (o : Option (List A × List Lexeme))
    → behind found (behind (x ∷ []) o) ≡ behind (found ++ x ∷ []) o
behind_behind found x None = refl
behind_behind found x (Some read) =
    ap (λ xs. Some (xs, read.1)) (sym (append_assoc found (x ∷ []) read.0))

behind_end : {A : Type 0} (found : List A) (ts : List Lexeme)
    → behind found (Some ([], ts)) ≡ Some (found, ts)
behind_end found ts = ap (λ xs. Some (xs, ts)) (append-nil found)

one_turn : {A : Type 0} (p : Parser (Option A)) (n : ℕ) (ts : List Lexeme)
    → many_from p (suc n) ts ≡ and_then (p ts) (many_step (many_from p n))
unfolding many_from
one_turn p n ts = refl

no_turn : {A : Type 0} (p : Parser (Option A)) (ts : List Lexeme) → many_from p 0 ts ≡ Some ([], ts)
unfolding many_from
no_turn p ts = refl

-- before the first turn
pub begun : {A : Type 0} (p : Parser (Option A)) (end : ℕ) (ts : List Lexeme) → end ≡ length ts
    → many p ts ≡ behind [] (many_from p (end - 0) ts)
unfolding many
begun p end ts e =
    let f : end - 0 ≡ length ts = omega (arith, e) in
    sym (behind_nothing (many_from p (end - 0) ts) ∙ ap (λ n. many_from p n ts) f)

module _ {A : Type 0} (p : Parser (Option A)) (turn end : ℕ) (ts : List Lexeme) (found : List A)
    (all : Option (List A × List Lexeme)) (so_far : all ≡ behind found (many_from p (end - turn) ts))
  where
    -- what a turn makes of what is left
    turned : turn < end
        → all ≡ behind found (and_then (p ts) (many_step (many_from p (end - (turn + 1)))))
    turned below =
        let left : end - turn ≡ suc (end - (turn + 1)) = omega arith in
        so_far ∙ ap (λ n. behind found (many_from p n ts)) left
        ∙ ap (behind found) (one_turn p (end - (turn + 1)) ts)

    pub refused : turn < end → p ts ≡ None → all ≡ None
    refused below e =
        turned below ∙ ap (λ o. behind found (and_then o (many_step (many_from p (end - (turn + 1)))))) e

    pub absent : turn < end → (f : Option A) (mid : List Lexeme) → f ≡ None → p ts ≡ Some (f, mid)
        → all ≡ Some (found, mid)
    absent below f mid none e =
        turned below
        ∙ ap (λ o. behind found (and_then o (many_step (many_from p (end - (turn + 1)))))) e
        ∙ ap (λ g. behind found (many_step (many_from p (end - (turn + 1))) g mid)) none
        ∙ behind_end found mid

    pub longer : turn < end → (f : Option A) (x : A) (mid : List Lexeme) → f ≡ Some x
        → p ts ≡ Some (f, mid)
        → all ≡ behind (found ++ x ∷ []) (many_from p (end - (turn + 1)) mid)
    longer below f x mid some e =
        turned below
        ∙ ap (λ o. behind found (and_then o (many_step (many_from p (end - (turn + 1)))))) e
        ∙ ap (λ g. behind found (many_step (many_from p (end - (turn + 1))) g mid)) some
        ∙ behind_behind found x (many_from p (end - (turn + 1)) mid)

    pub full : end ≤ turn → all ≡ Some (found, ts)
    full above =
        let left : end - turn ≡ 0 = omega arith in
        so_far ∙ ap (λ n. behind found (many_from p n ts)) left ∙ ap (behind found) (no_turn p ts)
        ∙ behind_end found ts
