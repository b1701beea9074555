-- Where a header name has no end.
use Rattle.std.proofs.Common.{◌≡◌, ℕ, List, [], ◌∷◌, Some, Bool, true, false, not, ◌==◌, ◌&&◌, ◌||◌, refl, sym, ap, ◌∙◌, ⊎_elim}
use Rattle.std.proofs.lemmas.Bool.{cond-true, cond-false, cases_Bool}
use Rattle.cx_lex.specs.declared.character.Character.{Character}
use Rattle.cx_lex.specs.declared.scan.Scan.TheVariants.{InHeader, Closed}
use Rattle.cx_lex.specs.Shapes.Scanning.{Scanned, is_barren, is_closed, scanned}
use Rattle.cx_lex.proofs.Scans.{scanned_end, scanned_more, scanned_stop}
use Rattle.cx_lex.proofs.Steps.{header_step, kept_false, kept_true, scanned_closed}

abbrev ends : List Character → Bool
ends cs = is_closed (scanned (InHeader 62) cs).end

at_newline : (c : Character) (cs : List Character) → c.in_newline ≡ true → ends (c ∷ cs) ≡ false
at_newline c cs n =
    ap (λ (s : Scanned). is_closed s.end) (scanned_stop (InHeader 62) c cs (header_step 62 c ∙ kept_false _ _ (ap not n)))

at_close : (c : Character) (cs : List Character) → c.in_newline ≡ false → (c.code == 62) ≡ true → ends (c ∷ cs) ≡ true
at_close c cs n e =
    ap (λ (s : Scanned). is_closed s.end) (scanned_more (InHeader 62) c cs Closed (header_step 62 c ∙ kept_true _ _ (ap not n) ∙ ap Some (cond-true _ _ _ e)))
    ∙ ap (λ (s : Scanned). is_closed s.end) (scanned_closed cs)

at_other : (c : Character) (cs : List Character) → c.in_newline ≡ false → (c.code == 62) ≡ false → ends (c ∷ cs) ≡ ends cs
at_other c cs n e =
    ap (λ (s : Scanned). is_closed s.end) (scanned_more (InHeader 62) c cs (InHeader 62) (header_step 62 c ∙ kept_true _ _ (ap not n) ∙ ap Some (cond-false _ _ _ e)))

barren_end : is_barren [] ≡ true
unfolding is_barren
barren_end = refl

barren_is : (c : Character) (cs : List Character) → is_barren (c ∷ cs) ≡ (c.in_newline || (not (c.code == 62) && is_barren cs))
unfolding is_barren
barren_is c cs = refl

no_end : ends [] ≡ false
no_end = ap (λ (s : Scanned). is_closed s.end) (scanned_end (InHeader 62))

-- no `>` is left on the line exactly where a header name that ends with it has no end
pub barren_ends : (cs : List Character) → is_barren cs ≡ not (is_closed (scanned (InHeader 62) cs).end)
barren_ends [] = barren_end ∙ sym (ap not no_end)
barren_ends (c ∷ cs) =
    ⊎_elim
    (λ (n : c.in_newline ≡ true). barren_is c cs ∙ ap (λ b. b || (not (c.code == 62) && is_barren cs)) n ∙ sym (ap not (at_newline c cs n)))
    (λ (n : c.in_newline ≡ false). ⊎_elim
    (λ (e : (c.code == 62) ≡ true). barren_is c cs ∙ ap (λ b. b || (not (c.code == 62) && is_barren cs)) n ∙ ap (λ b. not b && is_barren cs) e ∙ sym (ap not (at_close c cs n e)))
    (λ (e : (c.code == 62) ≡ false). barren_is c cs ∙ ap (λ b. b || (not (c.code == 62) && is_barren cs)) n ∙ ap (λ b. not b && is_barren cs) e ∙ barren_ends cs ∙ sym (ap not (at_other c cs n e)))
    (cases_Bool (c.code == 62)))
    (cases_Bool c.in_newline)

pub barren_open : (close : ℕ) (cs : List Character) → close ≡ 62 → is_barren cs ≡ true → is_closed (scanned (InHeader close) cs).end ≡ false
barren_open close cs e b = ap (λ n. is_closed (scanned (InHeader n) cs).end) e ∙ was_true (is_closed (scanned (InHeader 62) cs).end) (sym (barren_ends cs) ∙ b)
  where
    was_true : (b : Bool) → not b ≡ true → b ≡ false
    was_true true h = absurd cc
    was_true false h = refl

pub open_barren : (close : ℕ) (cs : List Character) → close ≡ 62 → is_closed (scanned (InHeader close) cs).end ≡ false → is_barren cs ≡ true
open_barren close cs e b = barren_ends cs ∙ ap not (sym (ap (λ n. is_closed (scanned (InHeader n) cs).end) e) ∙ b)
