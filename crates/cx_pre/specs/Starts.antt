-- The macros that are defined before a unit's text (C11 6.10.8), and those of a configuration.
use Rattle.std.specs.Prelude.{ℕ, ◌-◌, ◌==◌, List, [], ◌∷◌, ◌++◌, Bool, false, ◌&&◌, ◌||◌, if◌then◌else◌, codes, bytes_eq, take}
use Rattle.cx_base.specs.declared.define.Define.{Define}
use Rattle.cx_base.specs.declared.place.Place.{Place}
use Rattle.cx_table.specs.NameTable.{with_entry, without_entry}
use Rattle.cx_tokens.specs.declared.token.Kind.{Kind}
use Rattle.cx_tokens.specs.declared.token.Kind.TheVariants.{Number, String}
use Rattle.cx_tokens.specs.declared.token.Token.{Token}
use Rattle.cx_lex.specs.declared.comment.Comment.{Comment}
use Rattle.cx_lex.specs.declared.piece.Piece.{Piece}
use Rattle.cx_lex.specs.Lexing.{Lexes, lexed, piece_limit, too_long, unclosed_comment}
use Rattle.cx_macro.specs.Expansion.{line_name}
use Rattle.cx_macro.specs.Macros.{Definition, Table, no_macros}
use Rattle.cx_directive.specs.Defines.{object_like}
use Rattle.cx_directive.specs.Operands.{tokens_of}
use Rattle.cx_pre.specs.declared.config.Config.{Config}
use Rattle.cx_shelf.specs.declared.shelf.Shelf.{Shelf}
use Rattle.cx_shelf.specs.Shelves.{path_of}
use Rattle.cx_pre.specs.Stages.{Stage, with_macros}

abbrev pub file_name : List ℕ
file_name = codes "__FILE__"

-- the names that no text defines or undefines: those whose replacement the place gives (C11
-- 6.10.8.1)
abbrev pub is_kept : List ℕ → Bool
is_kept name = bytes_eq name file_name || bytes_eq name line_name

-- macros with a definition more, unless its name is kept
abbrev pub with_definition : List ℕ → Definition → Table → Table
with_definition name d macros = if is_kept name then macros else with_entry name d macros

abbrev pub without_definition : List ℕ → Table → Table
without_definition name macros = if is_kept name then macros else without_entry name macros

-- a macro that one token replaces
abbrev pub one_token : Kind → List ℕ → Definition
one_token kind text =
    object_like ((record {
      kind = kind;
      text = text;
      place = record { file = 0; line = 0; column = 0 };
      hide = [];
      space = false;
      parts = [];
      digraph = false;
    }) ∷ [])

-- a path as the members of a string literal: a backslash (92) before each `"` (34) and backslash
abbrev pub escaped : List ℕ → List ℕ
escaped [] = []
escaped (b ∷ bs) = if (b == 34) || (b == 92) then 92 ∷ b ∷ escaped bs else b ∷ escaped bs

-- `__FILE__` in a file is a string literal of its path
unfoldable pub file_macro : List ℕ → Definition
file_macro path = one_token String (34 ∷ (escaped path ++ 34 ∷ []))

-- the macros in a file
abbrev pub in_file : Shelf → ℕ → Stage → Stage
in_file shelf file s =
    with_macros (with_entry file_name (file_macro (path_of shelf file)) s.macros) s

-- Before every other: `__LINE__`, which is replaced by the line of its place whatever it is defined
-- as, and what tells the standard.
unfoldable pub standard_macros : Table
standard_macros =
    (line_name, object_like []) ∷ (codes "__STDC__", one_token Number (codes "1"))
    ∷ (codes "__STDC_VERSION__", one_token Number (codes "201112L")) ∷ no_macros

abbrev pub begins_with_lf : List ℕ → Bool
begins_with_lf [] = false
begins_with_lf (b ∷ bs) = b == 10

-- a text as one line: each newline (10, or 13 and 10) is a space (32)
unfoldable pub one_line : List ℕ → List ℕ
one_line [] = []
one_line (b ∷ bs) =
    if (b == 13) && begins_with_lf bs then one_line bs
    else (if b == 10 then 32 else b) ∷ one_line bs

-- HasTokens text tokens: these are the tokens of a text that is one line, up to a comment with no
-- end, and up to the greatest number of pieces.
pub data HasTokens (text : List ℕ) : List Token → Type 0 where
  whole : {pieces : List Piece} (comments : List Comment)
      → Lexes 0 piece_limit (one_line text) (lexed pieces comments)
      → HasTokens text (tokens_of pieces)
  open_comment : {pieces : List Piece} (comments : List Comment) (at : Place)
      → Lexes 0 piece_limit (one_line text) (unclosed_comment at)
      → Lexes 0 piece_limit (take (at.column - 1) (one_line text)) (lexed pieces comments)
      → HasTokens text (tokens_of pieces)
  too_many : {pieces : List Piece} (comments : List Comment) (at : Place)
      → Lexes 0 piece_limit (one_line text) (too_long at)
      → Lexes 0 piece_limit (take (at.column - 1) (one_line text)) (lexed pieces comments)
      → HasTokens text (tokens_of pieces)

-- Definitions of a configuration, in order: the last of a name counts.
pub data AreDefined : Table → List Define → Table → Type 0 where
  no_more : {macros : Table} → AreDefined macros [] macros
  one_more : {macros after : Table} {d : Define} {ds : List Define} (body : List Token)
      → HasTokens d.value body
      → AreDefined (with_definition d.name (object_like body) macros) ds after
      → AreDefined macros (d ∷ ds) after

-- names that are defined as 1
unfoldable pub with_names : List (List ℕ) → Table → Table
with_names [] macros = macros
with_names (name ∷ names) macros =
    with_names names (with_definition name (one_token Number (codes "1")) macros)

-- the macros before a unit's text in a configuration
pub data IsStart (config : Config) : Table → Type 0 where
  start : {macros : Table} → AreDefined standard_macros config.defines macros
      → IsStart config (with_names config.names macros)
