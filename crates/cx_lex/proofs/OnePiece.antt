-- Bytes that are one piece, as the lexer finds it.
use Rattle.std.proofs.Common.{◌≡◌, ℕ, List, [], ◌++◌, true, sym, ap, ◌∙◌, subst, append-nil}
use Rattle.std.specs.List.{list_all}
use Rattle.cx_base.specs.declared.place.Place.{Place}
use Rattle.cx_tokens.specs.declared.token.Kind.{Kind}
use Rattle.cx_lex.specs.declared.before.Directive.TheVariants.{Nothing}
use Rattle.cx_lex.specs.declared.front.Front.TheVariants.{OfPiece}
use Rattle.cx_tokens.specs.Digraphs.{plain_text}
use Rattle.cx_lex.specs.Elements.{at_start, piece, IsPiece}
use Rattle.cx_lex.specs.Shapes.Fronts.{element_at, found, front_of, rest_of}
use Rattle.cx_lex.specs.Lexing.{IsOnePiece, place_of}
use Rattle.cx_lex.specs.Lines.{bytes_of, file_characters, file_start}
use Rattle.cx_lex.proofs.ElementComplete.{element_complete}
use Rattle.cx_lex.proofs.ElementSound.{element_sound}
use Rattle.cx_lex.proofs.Found.{Is, IsFound}
use Rattle.cx_lex.proofs.Onward.{piece_found}
use Rattle.cx_lex.proofs.Well.{is_well, well_characters}

well : (bytes : List ℕ) → list_all is_well (file_characters 0 bytes) ≡ true
well bytes = well_characters bytes (file_start 0)

-- what is one piece is found as one
pub one_found : (bytes : List ℕ) (kind : Kind) (text : List ℕ) → IsOnePiece bytes kind text
    → element_at Nothing (file_characters 0 bytes) ≡ found (piece kind (file_characters 0 bytes)) []
one_found bytes kind text h =
    let cs = file_characters 0 bytes in
    let e : cs ++ [] ≡ cs = append-nil cs in
    ap (element_at Nothing) (sym e) ∙ element_complete at_start (piece kind cs) [] (subst (λ t. list_all is_well t ≡ true) (sym e) (well bytes)) h.0

pub one_front : (bytes : List ℕ) (kind : Kind) (text : List ℕ) → IsOnePiece bytes kind text
    → (front_of (element_at Nothing (file_characters 0 bytes)) ≡ OfPiece (place_of (file_characters 0 bytes)) kind (bytes_of (file_characters 0 bytes)))
unfolding front_of
one_front bytes kind text h = ap front_of (one_found bytes kind text h)

pub one_rest : (bytes : List ℕ) (kind : Kind) (text : List ℕ) → IsOnePiece bytes kind text → rest_of (element_at Nothing (file_characters 0 bytes)) ≡ []
unfolding rest_of
one_rest bytes kind text h = ap rest_of (one_found bytes kind text h)

-- what is found as a piece with nothing after it is one
pub found_one : (bytes : List ℕ) (place : Place) (kind : Kind) (spelled text : List ℕ) → OfPiece place kind spelled ≡ front_of (element_at Nothing (file_characters 0 bytes))
    → rest_of (element_at Nothing (file_characters 0 bytes)) ≡ [] → text ≡ plain_text kind spelled → IsOnePiece bytes kind text
found_one bytes place kind spelled text e r d =
    let cs = file_characters 0 bytes in
    let f = element_at Nothing cs in
    let p = piece_found f place kind spelled e in
    let g : f ≡ found (piece kind p.cs) [] = p.is ∙ ap (λ t. found (piece kind p.cs) t) r in
    let i : IsFound at_start cs (piece kind p.cs) [] = subst (Is at_start cs) g (element_sound at_start cs (well bytes)) in
    let w : cs ≡ p.cs = i.whole_text ∙ append-nil p.cs in
    (subst (λ t. IsPiece at_start kind t []) (sym w) i.is_element, d ∙ ap (plain_text kind) (p.bytes_are ∙ ap bytes_of (sym w)))

pub same_kind : (bytes : List ℕ) (some other : Kind) (text second : List ℕ) → IsOnePiece bytes some text → IsOnePiece bytes other second
    → (some ≡ other) × (text ≡ second)
same_kind bytes some other text second h k =
    let e = sym (one_front bytes some text h) ∙ one_front bytes other second k in
    let s : some ≡ other = cc in
    (s, h.1 ∙ ap (λ t. plain_text t (bytes_of (file_characters 0 bytes))) s ∙ sym k.1)
