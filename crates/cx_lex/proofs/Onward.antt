-- How the lexer goes on after an element.
use Rattle.std.proofs.Common.{◌≡◌, ℕ, ◌+◌, ◌-◌, ◌<◌, ◌≤◌, List, [], ◌∷◌, ◌++◌, Bool, true, refl, sym, ap, ap₂, ◌∙◌, subst, subst₂, arith, length, length-append, append-nil}
use Rattle.std.specs.List.{list_all}
use Rattle.cx_base.specs.declared.place.Place.{Place}
use Rattle.cx_tokens.specs.declared.token.Kind.{Kind}
use Rattle.cx_lex.specs.declared.before.Before.{Before}
use Rattle.cx_lex.specs.declared.character.Character.{Character}
use Rattle.cx_lex.specs.declared.comment.Comment.{Comment}
use Rattle.cx_lex.specs.declared.front.Front.TheVariants.{AtEnd, Separator, OfComment, OfPiece, OpenComment}
use Rattle.cx_lex.specs.declared.piece.Piece.{Piece}
use Rattle.cx_lex.specs.Shapes.After.{after_comment, after_piece, after_separator}
use Rattle.cx_lex.specs.Elements.{Element, at_start, after_element, characters_of, comment, piece, separator}
use Rattle.cx_tokens.specs.Digraphs.{is_digraph, plain_text}
use Rattle.cx_lex.specs.Shapes.Fronts.{Found, found, front_of, nothing, open_comment, rest_of}
use Rattle.cx_lex.specs.Lexing.{Outcome, lexed, place_of, too_long, unclosed_comment}
use Rattle.cx_lex.specs.Lines.{bytes_of}
use Rattle.cx_lex.proofs.Found.{Is, IsFound}
use Rattle.cx_lex.proofs.GoesLaws.{Goes, count_of, goes_end, goes_long, goes_more, goes_open, own_comments, own_pieces, put, put_twice}
use Rattle.cx_lex.proofs.Well.{is_well, well_behind}

-- what was read so far, and whatever becomes of what is left
pub record Onward (all cs : List Character) (limit : ℕ) (before : Before) (pieces : List Piece) (comments : List Comment) : Type 0 where
  pub within : length pieces ≤ limit
  pub well : list_all is_well cs ≡ true
  pub onward : (o : Outcome) → Goes before (limit - length pieces) cs o → Goes at_start limit all (put pieces comments o)

pub onward_start : (all : List Character) (limit : ℕ) → list_all is_well all ≡ true → Onward all all limit at_start [] []
onward_start all limit w = record { within = omega arith; well = w; onward = λ o g. started o g }
  where
    started : (o : Outcome) → Goes at_start (limit - 0) all o → Goes at_start limit all (put [] [] o)
    started (lexed ps ks) g = subst (λ n. Goes at_start n all (lexed ps ks)) (omega arith) g
    started (unclosed_comment at) g = subst (λ n. Goes at_start n all (unclosed_comment at)) (omega arith) g
    started (too_long at) g = subst (λ n. Goes at_start n all (too_long at)) (omega arith) g

count_is : (before : Before) (e : Element) → length (own_pieces before e) ≡ count_of e
count_is before (separator c) = refl
count_is before (comment mark text end) = refl
count_is before (piece kind cs) = refl

-- an element is passed
onward_more : (all cs : List Character) (limit : ℕ) (before : Before) (ps : List Piece) (ks : List Comment) (e : Element) (rest : List Character)
    → Onward all cs limit before ps ks → IsFound before cs e rest → length ps + count_of e ≤ limit
    → Onward all rest limit (after_element before e) (ps ++ own_pieces before e) (ks ++ own_comments before e)
onward_more all cs limit before ps ks e rest w f n =
    let l : length (ps ++ own_pieces before e) ≡ length ps + count_of e = length-append ps (own_pieces before e) ∙ ap (λ m. length ps + m) (count_is before e) in
    record {
      within = omega arith;
      well = well_behind (characters_of e) rest (subst (λ t. list_all is_well t ≡ true) f.whole_text w.well);
      onward = λ o g.
          subst (Goes at_start limit all) (put_twice ps (own_pieces before e) ks (own_comments before e) o)
          (w.onward (put (own_pieces before e) (own_comments before e) o)
          (subst (λ t. Goes before (limit - length ps) t (put (own_pieces before e) (own_comments before e) o)) (sym f.whole_text)
          (goes_more before (limit - length ps) (limit - length (ps ++ own_pieces before e)) e rest o f.is_element (omega arith) g)));
    }

-- what was found, by what was answered of it

separator_found : (f : Found) (newline : Bool) → Separator newline ≡ front_of f → (c : Character) × (f ≡ found (separator c) (rest_of f)) × (newline ≡ c.in_newline)
unfolding front_of rest_of
separator_found nothing newline e = absurd cc
separator_found (open_comment place rest) newline e = absurd cc
separator_found (found (separator c) rest) newline e = (c, refl, cc)
separator_found (found (comment mark text end) rest) newline e = absurd cc
separator_found (found (piece kind cs) rest) newline e = absurd cc

pub record CommentFound (f : Found) (place : Place) (bytes : List ℕ) : Type 0 where
  pub mark : List Character
  pub text : List Character
  pub end : List Character
  pub is : f ≡ found (comment mark text end) (rest_of f)
  pub place_is : place ≡ place_of mark
  pub bytes_are : bytes ≡ bytes_of text

comment_found : (f : Found) (place : Place) (bytes : List ℕ) → OfComment place bytes ≡ front_of f → CommentFound f place bytes
unfolding front_of rest_of
comment_found nothing place bytes e = absurd cc
comment_found (open_comment at rest) place bytes e = absurd cc
comment_found (found (separator c) rest) place bytes e = absurd cc
comment_found (found (comment mark text end) rest) place bytes e = record { mark = mark; text = text; end = end; is = refl; place_is = cc; bytes_are = cc }
comment_found (found (piece kind cs) rest) place bytes e = absurd cc

pub record PieceFound (f : Found) (place : Place) (kind : Kind) (bytes : List ℕ) : Type 0 where
  pub cs : List Character
  pub is : f ≡ found (piece kind cs) (rest_of f)
  pub place_is : place ≡ place_of cs
  pub bytes_are : bytes ≡ bytes_of cs

pub piece_found : (f : Found) (place : Place) (kind : Kind) (bytes : List ℕ) → OfPiece place kind bytes ≡ front_of f → PieceFound f place kind bytes
unfolding front_of rest_of
piece_found nothing place kind bytes e = absurd cc
piece_found (open_comment at rest) place kind bytes e = absurd cc
piece_found (found (separator c) rest) place kind bytes e = absurd cc
piece_found (found (comment mark text end) rest) place kind bytes e = absurd cc
piece_found (found (piece sort cs) rest) place kind bytes e = piece_at sort cs rest place kind bytes e
  where
    piece_at : (sort : Kind) (cs rest : List Character) (place : Place) (kind : Kind) (bytes : List ℕ)
        → OfPiece place kind bytes ≡ OfPiece (place_of cs) sort (bytes_of cs) → PieceFound (found (piece sort cs) rest) place kind bytes
    piece_at sort cs rest place kind bytes e =
        let k : kind ≡ sort = cc in
        record { cs = cs; is = ap (λ s. found (piece s cs) rest) (sym k); place_is = cc; bytes_are = cc }

open_found : (f : Found) (place : Place) → OpenComment place ≡ front_of f → f ≡ open_comment place (rest_of f)
unfolding front_of rest_of
open_found nothing place e = absurd cc
open_found (open_comment at rest) place e = let p : at ≡ place = cc in ap (λ q. open_comment q rest) p
open_found (found (separator c) rest) place e = absurd cc
open_found (found (comment mark text end) rest) place e = absurd cc
open_found (found (piece kind cs) rest) place e = absurd cc

end_found : (f : Found) → AtEnd ≡ front_of f → f ≡ nothing
unfolding front_of
end_found nothing e = refl
end_found (open_comment at rest) e = absurd cc
end_found (found (separator c) rest) e = absurd cc
end_found (found (comment mark text end) rest) e = absurd cc
end_found (found (piece kind cs) rest) e = absurd cc

-- the steps of the loop

after_separator_is : (before : Before) (c : Character) → after_element before (separator c) ≡ after_separator before c.in_newline
unfolding after_element
after_separator_is before c = refl

after_comment_is : (before : Before) (mark text end : List Character) → after_element before (comment mark text end) ≡ after_comment before
unfolding after_element
after_comment_is before mark text end = refl

after_piece_is : (before : Before) (kind : Kind) (cs : List Character) → after_element before (piece kind cs) ≡ after_piece before kind (bytes_of cs)
unfolding after_element
after_piece_is before kind cs = refl

pub onward_separator : (all cs : List Character) (limit : ℕ) (before : Before) (ps : List Piece) (ks : List Comment) (f : Found) (newline : Bool)
    → Onward all cs limit before ps ks → Is before cs f → Separator newline ≡ front_of f
    → Onward all (rest_of f) limit (after_separator before newline) ps ks
onward_separator all cs limit before ps ks f newline w h e =
    let p = separator_found f newline e in
    let m = onward_more all cs limit before ps ks (separator p.0) (rest_of f) w (subst (Is before cs) p.1 h) (let n = w.within in omega arith) in
    subst (λ b. Onward all (rest_of f) limit b ps ks) (after_separator_is before p.0 ∙ ap (after_separator before) (sym p.2))
    (subst₂ (λ qs ls. Onward all (rest_of f) limit (after_element before (separator p.0)) qs ls) (append-nil ps) (append-nil ks) m)

pub onward_comment : (all cs : List Character) (limit : ℕ) (before : Before) (ps : List Piece) (ks : List Comment) (f : Found) (place : Place) (bytes : List ℕ)
    → Onward all cs limit before ps ks → Is before cs f → OfComment place bytes ≡ front_of f
    → Onward all (rest_of f) limit (after_comment before) ps (ks ++ (record { place = place; text = bytes; alone = before.first_on_line }) ∷ [])
onward_comment all cs limit before ps ks f place bytes w h e =
    let p = comment_found f place bytes e in
    let m = onward_more all cs limit before ps ks (comment p.mark p.text p.end) (rest_of f) w (subst (Is before cs) p.is h) (let n = w.within in omega arith) in
    let k = ap₂ (λ (at : Place) (t : List ℕ). ks ++ (record { place = at; text = t; alone = before.first_on_line }) ∷ []) (sym p.place_is) (sym p.bytes_are) in
    subst (λ b. Onward all (rest_of f) limit b ps (ks ++ (record { place = place; text = bytes; alone = before.first_on_line }) ∷ [])) (after_comment_is before p.mark p.text p.end)
    (subst₂ (λ qs ls. Onward all (rest_of f) limit (after_element before (comment p.mark p.text p.end)) qs ls) (append-nil ps) k m)

-- the piece that was spelt so
abbrev pub spelt_piece : Before → Kind → Place → List ℕ → Piece
spelt_piece before kind place bytes = record {
  token = record {
    kind = kind;
    text = plain_text kind bytes;
    place = place;
    hide = [];
    space = before.space;
    parts = [];
    digraph = is_digraph kind bytes;
  };
  first_on_line = before.first_on_line;
}

pub onward_piece : (all cs : List Character) (limit : ℕ) (before : Before) (ps : List Piece) (ks : List Comment) (f : Found) (place : Place) (kind : Kind) (bytes : List ℕ)
    → Onward all cs limit before ps ks → Is before cs f → OfPiece place kind bytes ≡ front_of f → length ps < limit
    → Onward all (rest_of f) limit (after_piece before kind bytes)
    (ps ++ spelt_piece before kind place bytes ∷ []) ks
onward_piece all cs limit before ps ks f place kind bytes w h e n =
    let p = piece_found f place kind bytes e in
    let m = onward_more all cs limit before ps ks (piece kind p.cs) (rest_of f) w (subst (Is before cs) p.is h) (omega arith) in
    let k =
    ap₂ (λ (at : Place) (t : List ℕ). ps ++ spelt_piece before kind at t ∷ [])
    (sym p.place_is) (sym p.bytes_are) in
    subst (λ b. Onward all (rest_of f) limit b
    (ps ++ spelt_piece before kind place bytes ∷ []) ks)
    (after_piece_is before kind p.cs ∙ ap (after_piece before kind) (sym p.bytes_are))
    (subst₂ (λ qs ls. Onward all (rest_of f) limit (after_element before (piece kind p.cs)) qs ls) k (append-nil ks) m)

-- the ends of the loop

pub onward_end : (all cs : List Character) (limit : ℕ) (before : Before) (ps : List Piece) (ks : List Comment) (f : Found)
    → Onward all cs limit before ps ks → Is before cs f → AtEnd ≡ front_of f → Goes at_start limit all (lexed ps ks)
onward_end all cs limit before ps ks f w h e =
    let n = subst (Is before cs) (end_found f e) h in
    subst₂ (λ qs ls. Goes at_start limit all (lexed qs ls)) (append-nil ps) (append-nil ks)
    (w.onward (lexed [] []) (subst (λ t. Goes before (limit - length ps) t (lexed [] [])) (sym n) (goes_end before (limit - length ps))))

pub onward_open : (all cs : List Character) (limit : ℕ) (before : Before) (ps : List Piece) (ks : List Comment) (f : Found) (place : Place)
    → Onward all cs limit before ps ks → Is before cs f → OpenComment place ≡ front_of f → Goes at_start limit all (unclosed_comment place)
onward_open all cs limit before ps ks f place w h e =
    let n = subst (Is before cs) (open_found f place e) h in
    w.onward (unclosed_comment place)
    (subst (λ p. Goes before (limit - length ps) cs (unclosed_comment p)) (sym n.at) (goes_open before (limit - length ps) cs n.inner n.begins n.no_end))

pub onward_long : (all cs : List Character) (limit : ℕ) (before : Before) (ps : List Piece) (ks : List Comment) (f : Found) (place : Place) (kind : Kind) (bytes : List ℕ)
    → Onward all cs limit before ps ks → Is before cs f → OfPiece place kind bytes ≡ front_of f → limit ≤ length ps → Goes at_start limit all (too_long place)
onward_long all cs limit before ps ks f place kind bytes w h e n =
    let p = piece_found f place kind bytes e in
    let q = subst (Is before cs) p.is h in
    let z : 0 ≡ limit - length ps = omega arith in
    w.onward (too_long place)
    (subst (λ m. Goes before m cs (too_long place)) z
    (subst₂ (λ t at. Goes before 0 t (too_long at)) (sym q.whole_text) (sym p.place_is) (goes_long before kind p.cs (rest_of f) q.is_element)))

-- what is left gets shorter

found_smaller : (before : Before) (cs : List Character) (e : Element) (rest : List Character) → IsFound before cs e rest → length rest < length cs
found_smaller before cs e rest f =
    let n = ap length f.whole_text ∙ length-append (characters_of e) rest in
    let m = ap length f.some_text.2 in omega (arith, n, m)

pub separator_smaller : (before : Before) (cs : List Character) (f : Found) (newline : Bool) → Is before cs f → Separator newline ≡ front_of f → length (rest_of f) < length cs
separator_smaller before cs f newline h e =
    let p = separator_found f newline e in found_smaller before cs (separator p.0) (rest_of f) (subst (Is before cs) p.1 h)

pub comment_smaller : (before : Before) (cs : List Character) (f : Found) (place : Place) (bytes : List ℕ) → Is before cs f → OfComment place bytes ≡ front_of f → length (rest_of f) < length cs
comment_smaller before cs f place bytes h e =
    let p = comment_found f place bytes e in found_smaller before cs (comment p.mark p.text p.end) (rest_of f) (subst (Is before cs) p.is h)

pub piece_smaller : (before : Before) (cs : List Character) (f : Found) (place : Place) (kind : Kind) (bytes : List ℕ) → Is before cs f → OfPiece place kind bytes ≡ front_of f
    → length (rest_of f) < length cs
piece_smaller before cs f place kind bytes h e =
    let p = piece_found f place kind bytes e in found_smaller before cs (piece kind p.cs) (rest_of f) (subst (Is before cs) p.is h)
