-- Bytes are one piece, or none: for the crates above.
use Rattle.std.proofs.Common.{◌≡◌, ℕ, List, [], ◌∷◌, refl, sym, ◌∙◌}
use Rattle.cx_base.specs.declared.place.Place.{Place}
use Rattle.cx_tokens.specs.declared.token.Kind.{Kind}
use Rattle.cx_lex.specs.declared.before.Directive.TheVariants.{Nothing}
use Rattle.cx_lex.specs.declared.character.Character.{Character}
use Rattle.cx_lex.specs.declared.front.Front.{Front}
use Rattle.cx_lex.specs.declared.front.Front.TheVariants as front
use Rattle.cx_lex.specs.Lexing.{IsOnePiece}
use Rattle.cx_lex.specs.Lines.{file_characters}
use Rattle.cx_lex.specs.Shapes.Fronts.{element_at, front_of, rest_of}
use Rattle.cx_lex.proofs.OnePiece.{found_one, one_front, one_rest}

pub one_or_none : (bytes : List ℕ) (P : Type 0) → ((kind : Kind) (text : List ℕ) → IsOnePiece bytes kind text → P)
    → (((kind : Kind) (text : List ℕ) → ¬ IsOnePiece bytes kind text) → P) → P
one_or_none bytes P one none = at (front_of (element_at Nothing (file_characters 0 bytes))) (rest_of (element_at Nothing (file_characters 0 bytes))) refl refl
  where
    at : (f : Front) (rest : List Character) → front_of (element_at Nothing (file_characters 0 bytes)) ≡ f → rest_of (element_at Nothing (file_characters 0 bytes)) ≡ rest → P
    at (front.OfPiece place kind spelled) [] e r = one kind _ (found_one bytes place kind spelled _ (sym e) r refl)
    at (front.OfPiece place kind spelled) (c ∷ cs) e r = none (λ k t h. absurd (not_empty c cs (sym r ∙ one_rest bytes k t h)))
      where
        not_empty : (c : Character) (cs : List Character) → c ∷ cs ≡ [] → ⊥
        not_empty c cs e = absurd cc
    at front.AtEnd rest e r = none (λ k t h. absurd (not_piece _ k _ (sym e ∙ one_front bytes k t h)))
      where
        not_piece : (p : Place) (k : Kind) (t : List ℕ) → front.AtEnd ≡ front.OfPiece p k t → ⊥
        not_piece p k t e = absurd cc
    at (front.Separator b) rest e r = none (λ k t h. absurd (not_piece _ k _ (sym e ∙ one_front bytes k t h)))
      where
        not_piece : (p : Place) (k : Kind) (t : List ℕ) → front.Separator b ≡ front.OfPiece p k t → ⊥
        not_piece p k t e = absurd cc
    at (front.OfComment place text) rest e r = none (λ k t h. absurd (not_piece _ k _ (sym e ∙ one_front bytes k t h)))
      where
        not_piece : (p : Place) (k : Kind) (t : List ℕ) → front.OfComment place text ≡ front.OfPiece p k t → ⊥
        not_piece p k t e = absurd cc
    at (front.OpenComment place) rest e r = none (λ k t h. absurd (not_piece _ k _ (sym e ∙ one_front bytes k t h)))
      where
        not_piece : (p : Place) (k : Kind) (t : List ℕ) → front.OpenComment place ≡ front.OfPiece p k t → ⊥
        not_piece p k t e = absurd cc
