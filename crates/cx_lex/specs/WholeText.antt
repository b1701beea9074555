-- The pieces and the comments of a source are all of it but separators and deleted newlines (C11
-- 5.1.1.2, phase 3).
use Rattle.std.specs.Prelude.{◌≡◌, ℕ, List, [], ◌∷◌, ◌&&◌, ◌==◌, flat_map, if◌then◌else◌, map}
use Rattle.cx_tokens.specs.Digraphs.{plain_text, spelling_of}
use Rattle.cx_lex.specs.declared.comment.Comment.{Comment}
use Rattle.cx_lex.specs.declared.piece.Piece.{Piece}
use Rattle.cx_lex.specs.Elements.{Element, at_start, characters_of, comment, piece}
use Rattle.cx_lex.specs.Lexing.{AreElements, all_characters}
use Rattle.cx_lex.specs.Lines.{begins_with_newline, bytes_of, file_characters}

unfoldable mutual
  -- A text without its deleted newlines: a backslash (92) directly before a newline goes with it.
  pub without_deleted : List ℕ → List ℕ
  without_deleted [] = []
  without_deleted (b ∷ bs) =
      if (b == 92) && begins_with_newline bs
      then without_newline bs
      else b ∷ without_deleted bs

  -- the same of what stands after the newline in front, whose last byte is 10
  pub without_newline : List ℕ → List ℕ
  without_newline [] = []
  without_newline (b ∷ bs) = if b == 10 then without_deleted bs else without_newline bs

-- the texts of the pieces among elements
abbrev pub piece_texts : List Element → List (List ℕ)
piece_texts [] = []
piece_texts (piece kind cs ∷ es) = plain_text kind (bytes_of cs) ∷ piece_texts es
piece_texts (e ∷ es) = piece_texts es

-- the spellings of the pieces among elements
abbrev pub piece_spellings : List Element → List (List ℕ)
piece_spellings [] = []
piece_spellings (piece kind cs ∷ es) = bytes_of cs ∷ piece_spellings es
piece_spellings (e ∷ es) = piece_spellings es

-- the texts of the comments among elements
abbrev pub comment_texts : List Element → List (List ℕ)
comment_texts [] = []
comment_texts (comment opening text end ∷ es) = bytes_of text ∷ comment_texts es
comment_texts (e ∷ es) = comment_texts es

-- The characters of a text, without its deleted newlines, are elements whose pieces and comments
-- have these texts, and nothing else; and each piece keeps its spelling.
pub record ConsistsOf (file : ℕ) (text : List ℕ) (ps : List Piece) (cs : List Comment) : Type 0 where
  pub elements : List Element
  pub are_elements : AreElements at_start elements []
  pub characters : file_characters file text ≡ all_characters elements
  pub bytes : flat_map (λ e. bytes_of (characters_of e)) elements ≡ without_deleted text
  pub texts : map (λ p. p.token.text) ps ≡ piece_texts elements
  pub spellings : map (λ p. spelling_of p.token) ps ≡ piece_spellings elements
  pub comments_are : map (λ c. c.text) cs ≡ comment_texts elements
