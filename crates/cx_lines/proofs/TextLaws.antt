-- The text in front of lines, gone through line by line.
use Rattle.std.proofs.Common.{◌≡◌, ◌<◌, true, false, arith, List, [], ◌∷◌, ◌++◌, ⊎_elim, inl, inr, append_assoc, refl, sym, ap, ◌∙◌, subst, length}
use Rattle.std.specs.Prelude.{if◌then◌else◌}
use Rattle.std.proofs.lemmas.List.{append-nil}
use Rattle.cx_lex.specs.declared.piece.Piece.{Piece}
use Rattle.cx_lines.specs.Kinds.{after_text, begins_text, front_text, is_text, kind_of}
use Rattle.cx_lines.specs.Lines.{lines_of}
use Rattle.cx_lines.specs.Shapes.Cuts.{BeginsLine, IsBehindText}
use Rattle.cx_lines.proofs.LineLaws.{cut_next, cut_next_lines}

pub text_start : (all : List Piece) → IsBehindText all all
unfolding lines_of
text_start all = record { cut = record { front = []; whole = refl; begins = inl refl }; front = refl; after = refl; moved = inl refl }

front_more : (line : List Piece) (lines : List (List Piece)) → is_text (kind_of line) ≡ true → front_text (line ∷ lines) ≡ line ∷ front_text lines
unfolding front_text
front_more line lines e = subst (λ b. (if b then line ∷ front_text lines else []) ≡ line ∷ front_text lines) (sym e) refl

after_more : (line : List Piece) (lines : List (List Piece)) → is_text (kind_of line) ≡ true → after_text (line ∷ lines) ≡ after_text lines
unfolding after_text
after_more line lines e = subst (λ b. (if b then after_text lines else line ∷ lines) ≡ after_text lines) (sym e) refl

front_ends : (lines : List (List Piece)) → begins_text lines ≡ false → front_text lines ≡ []
unfolding front_text
front_ends [] e = refl
front_ends (line ∷ lines) e = subst (λ b. (if b then line ∷ front_text lines else []) ≡ []) (sym e) refl

after_ends : (lines : List (List Piece)) → begins_text lines ≡ false → after_text lines ≡ lines
unfolding after_text
after_ends [] e = refl
after_ends (line ∷ lines) e = subst (λ b. (if b then after_text lines else line ∷ lines) ≡ line ∷ lines) (sym e) refl

pub text_next : (all rest line more : List Piece) → IsBehindText all rest → rest ≡ line ++ more
    → lines_of rest ≡ line ∷ lines_of more → BeginsLine more → length more < length rest → is_text (kind_of line) ≡ true
    → IsBehindText all more
text_next all rest line more t whole first begins shorter text = record {
  cut = cut_next all rest line more t.cut whole begins;
  front =
      t.front ∙ ap (λ lines. lines_of t.cut.front ++ front_text lines) first
      ∙ ap (λ lines. lines_of t.cut.front ++ lines) (front_more line (lines_of more) text)
      ∙ sym (append_assoc (lines_of t.cut.front) (line ∷ []) (front_text (lines_of more)))
      ∙ ap (λ lines. lines ++ front_text (lines_of more)) (sym (cut_next_lines all rest line more t.cut whole first begins));
  after = t.after ∙ ap after_text first ∙ after_more line (lines_of more) text;
  moved =
      ⊎_elim (λ e. inr (subst (λ l. length more < length l) e shorter)) (λ h. inr (omega arith)) t.moved;
}

pub front_at_end : (all rest : List Piece) (t : IsBehindText all rest) → begins_text (lines_of rest) ≡ false
    → front_text (lines_of all) ≡ lines_of t.cut.front
front_at_end all rest t e =
    t.front ∙ ap (λ lines. lines_of t.cut.front ++ lines) (front_ends (lines_of rest) e) ∙ append-nil (lines_of t.cut.front)

pub after_at_end : (all rest : List Piece) → IsBehindText all rest → begins_text (lines_of rest) ≡ false
    → after_text (lines_of all) ≡ lines_of rest
after_at_end all rest t e = t.after ∙ after_ends (lines_of rest) e

pub moved_at_end : (all rest : List Piece) → IsBehindText all rest → begins_text (lines_of rest) ≡ false
    → begins_text (lines_of all) ≡ true → length rest < length all
moved_at_end all rest t e h =
    ⊎_elim (λ s. absurd (cc (ap (λ l. begins_text (lines_of l)) s))) (λ s. s) t.moved

pub text_at_directive : (lines : List (List Piece)) (line : List Piece) (more : List (List Piece)) → lines ≡ line ∷ more
    → is_text (kind_of line) ≡ false → begins_text lines ≡ false
text_at_directive lines line more e h = ap begins_text e ∙ h

pub text_at_end : (rest : List Piece) → rest ≡ [] → begins_text (lines_of rest) ≡ false
unfolding lines_of
text_at_end rest e = ap (λ l. begins_text (lines_of l)) e
