-- The macros before a unit's text, by the functions that make them.
use Rattle.std.specs.Prelude.{◌≡◌, ℕ, ◌-◌, List, take}
use Rattle.cx_base.specs.declared.define.Define.{Define}
use Rattle.cx_base.specs.declared.place.Place.{Place}
use Rattle.cx_lex.specs.declared.comment.Comment.{Comment}
use Rattle.cx_lex.specs.declared.piece.Piece.{Piece}
use Rattle.cx_lex.specs.Lexing.{Lexes, lexed, piece_limit}
use Rattle.cx_tokens.specs.declared.token.Token.{Token}
use Rattle.cx_macro.specs.Macros.{Table}
use Rattle.cx_directive.specs.Defines.{object_like}
use Rattle.cx_directive.specs.Operands.{tokens_of}
use Rattle.cx_pre.specs.Starts.{HasTokens, one_line, with_definition}

-- the front of a line before a place is these pieces
abbrev pub AreFront : List ℕ → Place → List Piece → Type 0
AreFront line at pieces =
    (comments : List Comment)
    × Lexes 0 piece_limit (take (at.column - 1) line) (lexed pieces comments)

-- the tokens of each text that is this line are those of these pieces
abbrev pub AreOfLine : List ℕ → List Piece → Type 0
AreOfLine line pieces = (text : List ℕ) → one_line text ≡ line → HasTokens text (tokens_of pieces)

-- macros with one definition of a configuration more
abbrev pub IsMade : Table → Define → Table → Type 0
IsMade old made new =
    (body : List Token) × HasTokens made.value body
    × (new ≡ with_definition made.name (object_like body) old)
