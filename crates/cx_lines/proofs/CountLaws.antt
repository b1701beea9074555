-- Groups that are passed over line by line.
use Rattle.std.proofs.Common.{◌≡◌, ℕ, ◌+◌, ◌-◌, true, false, List, [], ◌∷◌, refl, subst, sym, ap, ◌∙◌}
use Rattle.std.specs.Prelude.{◌==◌, ◌&&◌, if◌then◌else◌}
use Rattle.cx_lex.specs.declared.piece.Piece.{Piece}
use Rattle.cx_lines.specs.Kinds.{closes, ends_group, kind_of, opens}
use Rattle.cx_lines.specs.Lines.{lines_of}
use Rattle.cx_lines.specs.Nesting.{Line, after_section, from_part}
use Rattle.cx_lines.specs.Shapes.Counting.{nested_after}
use Rattle.cx_lines.specs.declared.kind.LineKind.{LineKind}
use Rattle.cx_lines.specs.declared.kind.LineKind.TheVariants.{If, Ifdef, Ifndef, Elif, Else, Endif}

group_step : (k : LineKind) (n : ℕ) (F : ℕ → List Line) (here : List Line) → (ends_group k && (n == 0)) ≡ false
    → (if opens k then F (n + 1) else if ends_group k && (n == 0) then here else if closes k then F (n - 1) else F n) ≡ F (nested_after n k)
unfolding nested_after
group_step If n F here e = refl
group_step Ifdef n F here e = refl
group_step Ifndef n F here e = refl
group_step Elif n F here e = subst (λ b. (if b then here else F n) ≡ F n) (sym e) refl
group_step Else n F here e = subst (λ b. (if b then here else F n) ≡ F n) (sym e) refl
group_step Endif n F here e = subst (λ b. (if b then here else F (n - 1)) ≡ F (n - 1)) (sym e) refl
group_step _ n F here e = refl

group_end : (k : LineKind) (n : ℕ) (F : ℕ → List Line) (here : List Line) → (ends_group k && (n == 0)) ≡ true
    → (if opens k then F (n + 1) else if ends_group k && (n == 0) then here else if closes k then F (n - 1) else F n) ≡ here
group_end Elif n F here e = subst (λ b. (if b then here else F n) ≡ here) (sym e) refl
group_end Else n F here e = subst (λ b. (if b then here else F n) ≡ here) (sym e) refl
group_end Endif n F here e = subst (λ b. (if b then here else F (n - 1)) ≡ here) (sym e) refl
group_end _ n F here e = absurd (cc)

section_step : (k : LineKind) (n : ℕ) (F : ℕ → List Line) (here : List Line) → (closes k && (n == 0)) ≡ false
    → (if opens k then F (n + 1) else if closes k && (n == 0) then here else if closes k then F (n - 1) else F n) ≡ F (nested_after n k)
unfolding nested_after
section_step If n F here e = refl
section_step Ifdef n F here e = refl
section_step Ifndef n F here e = refl
section_step Endif n F here e = subst (λ b. (if b then here else F (n - 1)) ≡ F (n - 1)) (sym e) refl
section_step _ n F here e = refl

section_end : (k : LineKind) (n : ℕ) (F : ℕ → List Line) (here : List Line) → (closes k && (n == 0)) ≡ true
    → (if opens k then F (n + 1) else if closes k && (n == 0) then here else if closes k then F (n - 1) else F n) ≡ here
section_end Endif n F here e = subst (λ b. (if b then here else F (n - 1)) ≡ here) (sym e) refl
section_end _ n F here e = absurd (cc)

pub from_part_step : (n : ℕ) (line : Line) (lines : List Line) → (ends_group (kind_of line) && (n == 0)) ≡ false
    → from_part n (line ∷ lines) ≡ from_part (nested_after n (kind_of line)) lines
unfolding from_part
from_part_step n line lines e = group_step (kind_of line) n (λ m. from_part m lines) (line ∷ lines) e

pub from_part_end : (n : ℕ) (line : Line) (lines : List Line) → (ends_group (kind_of line) && (n == 0)) ≡ true
    → from_part n (line ∷ lines) ≡ line ∷ lines
unfolding from_part
from_part_end n line lines e = group_end (kind_of line) n (λ m. from_part m lines) (line ∷ lines) e

pub after_section_step : (n : ℕ) (line : Line) (lines : List Line) → (closes (kind_of line) && (n == 0)) ≡ false
    → after_section n (line ∷ lines) ≡ after_section (nested_after n (kind_of line)) lines
unfolding after_section
after_section_step n line lines e = section_step (kind_of line) n (λ m. after_section m lines) lines e

pub after_section_end : (n : ℕ) (line : Line) (lines : List Line) → (closes (kind_of line) && (n == 0)) ≡ true
    → after_section n (line ∷ lines) ≡ lines
unfolding after_section
after_section_end n line lines e = section_end (kind_of line) n (λ m. after_section m lines) lines e

-- the same, of lines of which these are the first and the rest
pub from_part_next : (n : ℕ) (all : List Line) (line : Line) (lines : List Line) → all ≡ line ∷ lines
    → (ends_group (kind_of line) && (n == 0)) ≡ false → from_part n all ≡ from_part (nested_after n (kind_of line)) lines
from_part_next n all line lines first e = ap (from_part n) first ∙ from_part_step n line lines e

pub from_part_here : (n : ℕ) (all : List Line) (line : Line) (lines : List Line) → all ≡ line ∷ lines
    → (ends_group (kind_of line) && (n == 0)) ≡ true → from_part n all ≡ all
from_part_here n all line lines first e = ap (from_part n) first ∙ from_part_end n line lines e ∙ sym first

pub after_section_next : (n : ℕ) (all : List Line) (line : Line) (lines : List Line) → all ≡ line ∷ lines
    → (closes (kind_of line) && (n == 0)) ≡ false → after_section n all ≡ after_section (nested_after n (kind_of line)) lines
after_section_next n all line lines first e = ap (after_section n) first ∙ after_section_step n line lines e

pub after_section_here : (n : ℕ) (all : List Line) (line : Line) (lines : List Line) → all ≡ line ∷ lines
    → (closes (kind_of line) && (n == 0)) ≡ true → after_section n all ≡ lines
after_section_here n all line lines first e = ap (after_section n) first ∙ after_section_end n line lines e

pub from_part_nothing : (n : ℕ) (rest : List Piece) → rest ≡ [] → from_part n (lines_of rest) ≡ lines_of rest
unfolding lines_of from_part
from_part_nothing n rest e = subst (λ l. from_part n (lines_of l) ≡ lines_of l) (sym e) refl

pub after_section_nothing : (n : ℕ) (rest : List Piece) → rest ≡ [] → after_section n (lines_of rest) ≡ lines_of rest
unfolding lines_of after_section
after_section_nothing n rest e = subst (λ l. after_section n (lines_of l) ≡ lines_of l) (sym e) refl
