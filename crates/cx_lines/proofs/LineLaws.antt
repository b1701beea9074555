-- The lines of a source are cut before each piece that is the first on its line.
use Rattle.std.proofs.Common.{◌≡◌, ℕ, suc, ◌+◌, Bool, true, false, None, arith, List, [], ◌∷◌, ◌++◌, ⊎_elim, inl, inr, append_assoc, refl, sym, ap, ◌∙◌, subst}
use Rattle.std.specs.Prelude.{flat_map, not, if◌then◌else◌, length, take, drop}
use Rattle.std.specs.List.{position, position_or_len}
use Rattle.std.proofs.lemmas.List.{append_cancel_right}
use Rattle.std.proofs.lemmas.List.Sums.{prefix_len-le-length}
use Rattle.std.proofs.lemmas.List.Elements.{All-nil, All-cons}
use Rattle.cx_lex.specs.declared.piece.Piece.{Piece}
use Rattle.cx_lines.specs.Lines.{AreLines, Begins, IsLine, lines_of, with_piece}
use Rattle.cx_lines.specs.Shapes.Cuts.{BeginsLine, IsCut}

joined_with : (p : Piece) (lines : List (List Piece)) → flat_map (λ line. line) (with_piece p lines) ≡ p ∷ flat_map (λ line. line) lines
joined_with p [] = refl
joined_with p ([] ∷ lines) = refl
joined_with p ((q ∷ line) ∷ lines) =
    elim q.first_on_line as (λ b. flat_map (λ l. l) (if b then (p ∷ []) ∷ (q ∷ line) ∷ lines else (p ∷ q ∷ line) ∷ lines)
    ≡ p ∷ flat_map (λ l. l) ((q ∷ line) ∷ lines)) [
      | true ↦ refl
      | false ↦ refl
    ]

pub lines_joined : (pieces : List Piece) → flat_map (λ line. line) (lines_of pieces) ≡ pieces
unfolding lines_of
lines_joined [] = refl
lines_joined (p ∷ ps) = joined_with p (lines_of ps) ∙ ap (λ l. p ∷ l) (lines_joined ps)

with_line : (p : Piece) (lines : List (List Piece)) → AreLines lines → AreLines (with_piece p lines)
with_line p [] h = (refl, All-nil _, All-nil _)
with_line p ([] ∷ lines) h = absurd h.0
with_line p ((q ∷ line) ∷ lines) h =
    elim q.first_on_line as (λ b. q.first_on_line ≡ b → AreLines (if b then (p ∷ []) ∷ (q ∷ line) ∷ lines else (p ∷ q ∷ line) ∷ lines)) [
      | true ↦ λ e. (refl, All-cons IsLine (q ∷ line) lines h.0 h.1, All-cons Begins (q ∷ line) lines e h.2)
      | false ↦ λ e. (rw e h.0, h.1, h.2)
    ] refl

pub lines_are : (pieces : List Piece) → AreLines (lines_of pieces)
unfolding lines_of
lines_are [] = tt
lines_are (p ∷ ps) = with_line p (lines_of ps) (lines_are ps)

take_more : (n : ℕ) (q : Piece) (qs : List Piece) → take (1 + n) (q ∷ qs) ≡ q ∷ take n qs
take_more n q qs = let e : suc n ≡ 1 + n = omega (arith) in subst (λ k. take k (q ∷ qs) ≡ q ∷ take n qs) e refl

drop_more : (n : ℕ) (q : Piece) (qs : List Piece) → drop (1 + n) (q ∷ qs) ≡ drop n qs
drop_more n q qs = let e : suc n ≡ 1 + n = omega (arith) in subst (λ k. drop k (q ∷ qs) ≡ drop n qs) e refl

one_more : (n : ℕ) (p q : Piece) (qs : List Piece)
    → (p ∷ q ∷ take n qs) ∷ lines_of (drop n qs) ≡ (p ∷ take (1 + n) (q ∷ qs)) ∷ lines_of (drop (1 + n) (q ∷ qs))
one_more n p q qs = rw (take_more n q qs, drop_more n q qs) refl

-- the first line of pieces, and the lines behind it
pub first_line_is : (p : Piece) (ps : List Piece)
    → lines_of (p ∷ ps)
    ≡ (p ∷ take (position_or_len (λ q. q.first_on_line) ps) ps) ∷ lines_of (drop (position_or_len (λ q. q.first_on_line) ps) ps)
unfolding lines_of
first_line_is p [] = refl
first_line_is p (q ∷ qs) =
    let m = position_or_len (λ r. r.first_on_line) qs in
    ap (with_piece p) (first_line_is q qs)
    ∙ elim q.first_on_line as (λ b. (if b then (p ∷ []) ∷ (q ∷ take m qs) ∷ lines_of (drop m qs) else (p ∷ q ∷ take m qs) ∷ lines_of (drop m qs))
    ≡ (p ∷ take (if not b then 1 + m else 0) (q ∷ qs)) ∷ lines_of (drop (if not b then 1 + m else 0) (q ∷ qs))) [
      | true ↦ ap (λ l. (p ∷ []) ∷ l) (sym (first_line_is q qs))
      | false ↦ one_more m p q qs
    ]

pub found_nowhere : (test : Piece → Bool) (ps : List Piece) → position test ps ≡ None → length ps ≡ position_or_len test ps
found_nowhere test ps e = grind (arith, e, prefix_len-le-length (λ x. not (test x)) ps)

pub first_line_of : (pieces : List Piece) (p : Piece) (rest : List Piece) (n : ℕ) → pieces ≡ p ∷ rest
    → n ≡ position_or_len (λ q. q.first_on_line) rest → lines_of pieces ≡ take (n + 1) pieces ∷ lines_of (drop n rest)
first_line_of pieces p rest n e m =
    rw (e, m) (first_line_is p rest ∙ ap (λ l. l ∷ lines_of (drop (position_or_len (λ q. q.first_on_line) rest) rest)) (sym (take_after (position_or_len (λ q. q.first_on_line) rest))))
  where
    take_after : (k : ℕ) → take (k + 1) (p ∷ rest) ≡ p ∷ take k rest
    take_after k = let f : suc k ≡ k + 1 = omega (arith) in subst (λ j. take j (p ∷ rest) ≡ p ∷ take k rest) f refl

-- behind the first line of pieces a line begins
pub behind_begins : (ps : List Piece) → BeginsLine (drop (position_or_len (λ p. p.first_on_line) ps) ps)
behind_begins [] = tt
behind_begins (q ∷ qs) =
    let m = position_or_len (λ p. p.first_on_line) qs in
    elim q.first_on_line as (λ b. q.first_on_line ≡ b → BeginsLine (drop (if not b then 1 + m else 0) (q ∷ qs))) [
      | true ↦ λ e. e
      | false ↦ λ e. subst BeginsLine (sym (drop_more m q qs)) (behind_begins qs)
    ] refl

-- a piece in front of lines goes to the first of them, if there is one
with_piece_more : (p : Piece) (line : List Piece) (lines more : List (List Piece))
    → with_piece p (line ∷ lines ++ more) ≡ with_piece p (line ∷ lines) ++ more
with_piece_more p [] lines more = refl
with_piece_more p (q ∷ line) lines more =
    elim q.first_on_line as (λ b. (if b then (p ∷ []) ∷ (q ∷ line) ∷ lines ++ more else (p ∷ q ∷ line) ∷ lines ++ more)
    ≡ (if b then (p ∷ []) ∷ (q ∷ line) ∷ lines else (p ∷ q ∷ line) ∷ lines) ++ more) [
      | true ↦ refl
      | false ↦ refl
    ]

-- and is a line of its own where a line begins behind it
with_piece_alone : (p : Piece) (ps : List Piece) → BeginsLine ps → with_piece p (lines_of ps) ≡ (p ∷ []) ∷ lines_of ps
unfolding lines_of
with_piece_alone p [] h = refl
with_piece_alone p (q ∷ qs) h =
    let line = take (position_or_len (λ r. r.first_on_line) qs) qs in
    let lines = lines_of (drop (position_or_len (λ r. r.first_on_line) qs) qs) in
    subst (λ all. with_piece p all ≡ (p ∷ []) ∷ all) (sym (first_line_is q qs))
    (subst (λ b. (if b then (p ∷ []) ∷ (q ∷ line) ∷ lines else (p ∷ q ∷ line) ∷ lines) ≡ (p ∷ []) ∷ (q ∷ line) ∷ lines) (sym h) refl)

-- the lines of pieces that are cut where a line begins
pub lines_join : (a b : List Piece) → BeginsLine b → lines_of (a ++ b) ≡ lines_of a ++ lines_of b
unfolding lines_of
lines_join [] b h = refl
lines_join (p ∷ []) b h = with_piece_alone p b h
lines_join (p ∷ q ∷ a) b h =
    ap (with_piece p) (lines_join (q ∷ a) b h)
    ∙ subst (λ lines. with_piece p (lines ++ lines_of b) ≡ with_piece p lines ++ lines_of b) (sym (first_line_is q a))
    (with_piece_more p (q ∷ take (position_or_len (λ r. r.first_on_line) a) a) (lines_of (drop (position_or_len (λ r. r.first_on_line) a) a)) (lines_of b))

pub cut_start : (all : List Piece) → IsCut all all
cut_start all = record { front = []; whole = refl; begins = inl refl }

pub cut_next : (all rest line more : List Piece) → IsCut all rest → rest ≡ line ++ more → BeginsLine more → IsCut all more
cut_next all rest line more c e b = record {
  front = c.front ++ line;
  whole = c.whole ∙ ap (λ l. c.front ++ l) e ∙ sym (append_assoc c.front line more);
  begins = inr b;
}

pub cut_lines : (all rest : List Piece) (c : IsCut all rest) → lines_of all ≡ lines_of c.front ++ lines_of rest
unfolding lines_of
cut_lines all rest c =
    ap lines_of c.whole
    ∙ ⊎_elim (λ e. subst (λ front. lines_of (front ++ rest) ≡ lines_of front ++ lines_of rest) (sym e) refl)
    (λ b. lines_join c.front rest b) c.begins

-- a line more in front of the cut
pub cut_next_lines : (all rest line more : List Piece) (c : IsCut all rest) → (e : rest ≡ line ++ more)
    → lines_of rest ≡ line ∷ lines_of more → (b : BeginsLine more)
    → lines_of (cut_next all rest line more c e b).front ≡ lines_of c.front ++ line ∷ []
unfolding cut_next
cut_next_lines all rest line more c e first b =
    append_cancel_right (lines_of (c.front ++ line)) (lines_of c.front ++ line ∷ []) (lines_of more)
    (sym (cut_lines all more (cut_next all rest line more c e b)) ∙ cut_lines all rest c
    ∙ ap (λ lines. lines_of c.front ++ lines) first ∙ sym (append_assoc (lines_of c.front) (line ∷ []) (lines_of more)))
