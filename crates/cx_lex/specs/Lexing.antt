-- How a source falls into preprocessing tokens and comments (C11 5.1.1.2, phases 1 to 3).
use Rattle.std.specs.Prelude.{◌≡◌, ℕ, ◌≤◌, List, [], ◌∷◌, ◌++◌, flat_map, length, codes}
use Rattle.cx_base.specs.declared.place.Place.{Place}
use Rattle.cx_tokens.specs.declared.token.Kind.{Kind}
use Rattle.cx_tokens.specs.Digraphs.{is_digraph, plain_text}
use Rattle.cx_lex.specs.declared.comment.Comment.{Comment}
use Rattle.cx_lex.specs.declared.piece.Piece.{Piece}
use Rattle.cx_lex.specs.declared.before.Before.{Before}
use Rattle.cx_lex.specs.declared.character.Character.{Character}
use Rattle.cx_lex.specs.Elements.{Element, IsElement, IsPiece, StandsNowhere, after_element, at_start, characters_of, comment, piece}
use Rattle.cx_lex.specs.Lines.{bytes_of, file_characters}

-- the greatest number of pieces of a source
abbrev pub piece_limit : ℕ
piece_limit = 1048576

-- the characters of elements, in order
abbrev pub all_characters : List Element → List Character
all_characters es = flat_map characters_of es

-- Each of the elements stands in front of those after it, with a rest after them all.
abbrev pub AreElements : Before → List Element → List Character → Type 0
AreElements before [] rest = Unit {0}
AreElements before (e ∷ es) rest =
    IsElement before e (all_characters es ++ rest) × AreElements (after_element before e) es rest

abbrev pub place_of : List Character → Place
place_of [] = record { file = 0; line = 0; column = 0 }
place_of (c ∷ cs) = c.place

-- the piece that these characters are, with what stands before them
abbrev pub piece_of : Before → Kind → List Character → Piece
piece_of before kind cs = record {
  token = record {
    kind = kind;
    text = plain_text kind (bytes_of cs);
    place = place_of cs;
    hide = [];
    space = before.space;
    parts = [];
    digraph = is_digraph kind (bytes_of cs);
  };
  first_on_line = before.first_on_line;
}

abbrev pub pieces_of : Before → List Element → List Piece
pieces_of before [] = []
pieces_of before (piece kind cs ∷ es) =
    piece_of before kind cs ∷ pieces_of (after_element before (piece kind cs)) es
pieces_of before (e ∷ es) = pieces_of (after_element before e) es

abbrev pub comments_of : Before → List Element → List Comment
comments_of before [] = []
comments_of before (comment opening text end ∷ es) =
    (record { place = place_of opening; text = bytes_of text; alone = before.first_on_line })
    ∷ comments_of (after_element before (comment opening text end)) es
comments_of before (e ∷ es) = comments_of (after_element before e) es

-- The pieces and the comments of a text, or the place of its first fault.
pub data Outcome : Type 0 where
  lexed : List Piece → List Comment → Outcome
  unclosed_comment : Place → Outcome
  too_long : Place → Outcome

-- Lexes file limit text outcome: the text of the file is separators, comments and at most so many
-- pieces; or after such stands a comment with no end; or a piece more.
pub data Lexes (file limit : ℕ) (text : List ℕ) : Outcome → Type 0 where
  whole : (es : List Element) → file_characters file text ≡ all_characters es
      → AreElements at_start es [] → length (pieces_of at_start es) ≤ limit
      → Lexes file limit text (lexed (pieces_of at_start es) (comments_of at_start es))
  open_comment : (es : List Element) (rest : List Character) (inner : List ℕ)
      → file_characters file text ≡ all_characters es ++ rest
      → AreElements at_start es rest → length (pieces_of at_start es) ≤ limit
      → bytes_of rest ≡ codes "/*" ++ inner → StandsNowhere (codes "*/") inner
      → Lexes file limit text (unclosed_comment (place_of rest))
  piece_more : (es : List Element) (kind : Kind) (cs rest : List Character)
      → file_characters file text ≡ all_characters (es ++ piece kind cs ∷ []) ++ rest
      → AreElements at_start (es ++ piece kind cs ∷ []) rest
      → length (pieces_of at_start es) ≡ limit
      → Lexes file limit text (too_long (place_of cs))

-- bytes are one piece, of this kind and text, and nothing else
abbrev pub IsOnePiece : List ℕ → Kind → List ℕ → Type 0
IsOnePiece bytes kind text =
    IsPiece at_start kind (file_characters 0 bytes) []
    × (text ≡ plain_text kind (bytes_of (file_characters 0 bytes)))
