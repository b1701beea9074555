-- What becomes of a text after elements that were read.
use Rattle.std.proofs.Common.{◌≡◌, ℕ, ◌+◌, ◌≤◌, List, [], ◌∷◌, ◌++◌, refl, sym, ap, ap₂, ◌∙◌, subst, subst₂, arith, length, append_assoc, append-nil, codes}
use Rattle.cx_tokens.specs.declared.token.Kind.{Kind}
use Rattle.cx_lex.specs.declared.before.Before.{Before}
use Rattle.cx_lex.specs.declared.character.Character.{Character}
use Rattle.cx_lex.specs.declared.comment.Comment.{Comment}
use Rattle.cx_lex.specs.declared.piece.Piece.{Piece}
use Rattle.cx_lex.specs.Elements.{Element, IsElement, at_start, after_element, comment, piece, separator, characters_of}
use Rattle.cx_lex.specs.Lexing.{AreElements, Lexes, Outcome, comments_of, lexed, piece_of, open_comment, piece_more, pieces_of, place_of, all_characters, too_long, unclosed_comment, whole}
use Rattle.cx_lex.specs.Lines.{bytes_of, file_characters}
use Rattle.cx_lex.specs.Elements.{StandsNowhere}

-- Characters after elements that stand before them, and what becomes of them where so many pieces may come.
abbrev pub Goes : Before → ℕ → List Character → Outcome → Type 0
Goes before limit cs (lexed pieces comments) =
    (es : List Element) × (cs ≡ all_characters es) × AreElements before es [] × (length (pieces_of before es) ≤ limit)
    × (pieces ≡ pieces_of before es) × (comments ≡ comments_of before es)
Goes before limit cs (unclosed_comment at) =
    (es : List Element) × (rest : List Character) × (inner : List ℕ) × (cs ≡ all_characters es ++ rest) × AreElements before es rest
    × (length (pieces_of before es) ≤ limit) × (bytes_of rest ≡ codes "/*" ++ inner) × StandsNowhere (codes "*/") inner × (at ≡ place_of rest)
Goes before limit cs (too_long at) =
    (es : List Element) × (kind : Kind) × (more : List Character) × (rest : List Character) × (cs ≡ all_characters (es ++ piece kind more ∷ []) ++ rest)
    × AreElements before (es ++ piece kind more ∷ []) rest × (length (pieces_of before es) ≡ limit) × (at ≡ place_of more)

-- pieces and comments put in front of an outcome
abbrev pub put : List Piece → List Comment → Outcome → Outcome
put pieces comments (lexed more others) = lexed (pieces ++ more) (comments ++ others)
put pieces comments (unclosed_comment at) = unclosed_comment at
put pieces comments (too_long at) = too_long at

pub lexes_goes : (file limit : ℕ) (text : List ℕ) (o : Outcome) → Goes at_start limit (file_characters file text) o → Lexes file limit text o
lexes_goes file limit text (lexed pieces comments) g =
    subst₂ (λ ps ks. Lexes file limit text (lexed ps ks)) (sym g.4) (sym g.5) (whole g.0 g.1 g.2 g.3)
lexes_goes file limit text (unclosed_comment at) g =
    subst (λ p. Lexes file limit text (unclosed_comment p)) (sym g.8) (open_comment g.0 g.1 g.2 g.3 g.4 g.5 g.6 g.7)
lexes_goes file limit text (too_long at) g =
    subst (λ p. Lexes file limit text (too_long p)) (sym g.7) (piece_more g.0 g.1 g.2 g.3 g.4 g.5 g.6)

-- so many pieces does an element make
abbrev pub count_of : Element → ℕ
count_of (piece kind cs) = 1
count_of _ = 0

abbrev pub own_pieces : Before → Element → List Piece
own_pieces before (piece kind cs) = piece_of before kind cs ∷ []
own_pieces before _ = []

abbrev pub own_comments : Before → Element → List Comment
own_comments before (comment mark text end) = (record { place = place_of mark; text = bytes_of text; alone = before.first_on_line }) ∷ []
own_comments before _ = []

pub pieces_more : (before : Before) (e : Element) (es : List Element) → pieces_of before (e ∷ es) ≡ own_pieces before e ++ pieces_of (after_element before e) es
pieces_more before (separator c) es = refl
pieces_more before (comment mark text end) es = refl
pieces_more before (piece kind cs) es = refl

pub comments_more : (before : Before) (e : Element) (es : List Element) → comments_of before (e ∷ es) ≡ own_comments before e ++ comments_of (after_element before e) es
comments_more before (separator c) es = refl
comments_more before (comment mark text end) es = refl
comments_more before (piece kind cs) es = refl

pub count_more : (before : Before) (e : Element) (es : List Element) → length (pieces_of before (e ∷ es)) ≡ count_of e + length (pieces_of (after_element before e) es)
count_more before (separator c) es = omega arith
count_more before (comment mark text end) es = omega arith
count_more before (piece kind cs) es = omega arith

-- an element more in front
pub goes_more : (before : Before) (limit left : ℕ) (e : Element) (rest : List Character) (o : Outcome)
    → IsElement before e rest → count_of e + left ≡ limit → Goes (after_element before e) left rest o
    → Goes before limit (characters_of e ++ rest) (put (own_pieces before e) (own_comments before e) o)
goes_more before limit left e rest (lexed pieces comments) h n g = (
  e ∷ g.0,
  ap (λ l. characters_of e ++ l) g.1,
  (subst (IsElement before e) (g.1 ∙ sym (append-nil (all_characters g.0))) h, g.2),
  (let c = count_more before e g.0 in omega (arith, g.3)),
  ap (λ l. own_pieces before e ++ l) g.4 ∙ sym (pieces_more before e g.0),
  ap (λ l. own_comments before e ++ l) g.5 ∙ sym (comments_more before e g.0),
)
goes_more before limit left e rest (unclosed_comment at) h n g = (
  e ∷ g.0,
  g.1,
  g.2,
  ap (λ l. characters_of e ++ l) g.3 ∙ sym (append_assoc (characters_of e) (all_characters g.0) g.1),
  (subst (IsElement before e) g.3 h, g.4),
  (let c = count_more before e g.0 in omega (arith, g.5)),
  g.6,
  g.7,
  g.8,
)
goes_more before limit left e rest (too_long at) h n g = (
  e ∷ g.0,
  g.1,
  g.2,
  g.3,
  ap (λ l. characters_of e ++ l) g.4 ∙ sym (append_assoc (characters_of e) (all_characters (g.0 ++ piece g.1 g.2 ∷ [])) g.3),
  (subst (IsElement before e) g.4 h, g.5),
  (let c = count_more before e g.0 in omega (arith, g.6)),
  g.7,
)

pub goes_end : (before : Before) (limit : ℕ) → Goes before limit [] (lexed [] [])
goes_end before limit = ([], refl, tt, omega arith, refl, refl)

pub goes_open : (before : Before) (limit : ℕ) (cs : List Character) (inner : List ℕ) → bytes_of cs ≡ codes "/*" ++ inner → StandsNowhere (codes "*/") inner
    → Goes before limit cs (unclosed_comment (place_of cs))
goes_open before limit cs inner e n = ([], cs, inner, refl, tt, omega arith, e, n, refl)

pub goes_long : (before : Before) (kind : Kind) (cs rest : List Character) → IsElement before (piece kind cs) rest
    → Goes before 0 (cs ++ rest) (too_long (place_of cs))
goes_long before kind cs rest h = ([], kind, cs, rest, ap (λ l. l ++ rest) (sym (append-nil cs)), (h, tt), refl, refl)

-- what is put in front in two steps
pub put_twice : (ps qs : List Piece) (ks ls : List Comment) (o : Outcome) → put ps ks (put qs ls o) ≡ put (ps ++ qs) (ks ++ ls) o
put_twice ps qs ks ls (lexed more others) = ap₂ lexed (sym (append_assoc ps qs more)) (sym (append_assoc ks ls others))
put_twice ps qs ks ls (unclosed_comment at) = refl
put_twice ps qs ks ls (too_long at) = refl
