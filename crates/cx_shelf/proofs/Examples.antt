-- The names that sources include, and the files that units are made of, computed.
use Rattle.std.proofs.Common.{◌≡◌, ℕ, Bool, true, false, List, [], ◌∷◌, ◌++◌, codes, refl}
use Rattle.std.specs.Str.{chars, is_utf8}
use lib.Utf8.{encode}
use Rattle.cx_base.specs.Simple.{simple_path}
use Rattle.cx_tokens.specs.declared.token.Kind.{Kind}
use Rattle.cx_tokens.specs.declared.token.Kind.TheVariants.{Header, Name, Number, Punct}
use Rattle.cx_tokens.specs.Brackets.{is_punctuator}
use Rattle.cx_lex.specs.declared.piece.Piece.{Piece}
use Rattle.cx_lines.specs.Kinds.{directive_kind, kind_after_hash, kind_of, named_kind}
use Rattle.cx_lines.specs.Lines.{lines_of}
use Rattle.cx_directive.specs.declared.include.IncludeName.{IncludeName}
use Rattle.cx_directive.specs.Operands.{target_of}
use Rattle.cx_shelf.specs.declared.shelf.Shelf.{Shelf}
use Rattle.cx_shelf.specs.declared.shelf.Shelved.{Shelved}
use Rattle.cx_shelf.specs.Closures.{closure_of, included, reached}
use Rattle.cx_shelf.specs.Includes.{includes_of}
use Rattle.cx_shelf.specs.Searches.{candidates, first_number, folder_part, found}
use Rattle.cx_shelf.specs.Shelves.{number_of, path_of, pieces_of}

piece : Bool → Kind → List ℕ → Piece
piece first kind text = record {
  token = record {
    kind = kind;
    text = text;
    place = record { file = 0; line = 1; column = 1 };
    hide = [];
    space = false;
    parts = [];
    digraph = false;
  };
  first_on_line = first;
}

-- `#include "b"`, by the name in its quotes
line : List ℕ → List Piece
line name = piece true Punct (codes "#") ∷ piece false Name (codes "include") ∷ piece false Header name ∷ []

named : List ℕ → Bool → IncludeName
named name quoted = record { name = name; quoted = quoted; at = record { file = 0; line = 1; column = 1 } }

nothing_included : includes_of [] ≡ []
unfolding includes_of lines_of
nothing_included = refl

-- in the order of the lines, one that stands twice twice
in_order : includes_of (line (codes "\"b\"") ++ line (codes "<a>") ++ line (codes "\"b\""))
    ≡ named (codes "b") true ∷ named (codes "a") false ∷ named (codes "b") true ∷ []
unfolding includes_of lines_of kind_of directive_kind kind_after_hash named_kind target_of is_punctuator piece line named
in_order = refl

-- behind a name a `#` begins no directive
behind_a_name : List Piece
behind_a_name =
    piece true Name (codes "x") ∷ piece false Punct (codes "#") ∷ piece false Name (codes "include")
    ∷ piece false Header (codes "\"a\"") ∷ []

no_directive : includes_of behind_a_name ≡ []
unfolding includes_of lines_of kind_of directive_kind kind_after_hash named_kind target_of is_punctuator piece behind_a_name
no_directive = refl

-- one in a group that is not chosen counts
skipped : List Piece
skipped =
    piece true Punct (codes "#") ∷ piece false Name (codes "if") ∷ piece false Number (codes "0")
    ∷ (line (codes "<a>") ++ piece true Punct (codes "#") ∷ piece false Name (codes "endif") ∷ [])

skipped_is_named : includes_of skipped ≡ named (codes "a") false ∷ []
unfolding includes_of lines_of kind_of directive_kind kind_after_hash named_kind target_of is_punctuator piece line skipped named
skipped_is_named = refl

file : List ℕ → List Piece → Shelved
file path pieces = record { path = path; lexed = record { pieces = pieces; comments = [] } }

shelf_of : List Shelved → Shelf
shelf_of files = record { folders = []; files = files }

-- `a` includes `b`, and `b` includes `c`
chain : Shelf
chain = shelf_of (file (codes "a") (line (codes "\"b\"")) ∷ file (codes "b") (line (codes "\"c\"")) ∷ file (codes "c") [] ∷ [])

whole_chain : closure_of chain 0 ≡ 0 ∷ 1 ∷ 2 ∷ []
unfolding closure_of reached included path_of pieces_of lines_of kind_of directive_kind kind_after_hash named_kind target_of is_punctuator found first_number candidates folder_part simple_path number_of is_utf8 chars encode piece line file shelf_of chain
whole_chain = refl

end_of_chain : closure_of chain 1 ≡ 1 ∷ 2 ∷ []
unfolding closure_of reached included path_of pieces_of lines_of kind_of directive_kind kind_after_hash named_kind target_of is_punctuator found first_number candidates folder_part simple_path number_of is_utf8 chars encode piece line file shelf_of chain
end_of_chain = refl

-- what is no number of a file includes nothing
no_file : closure_of chain 3 ≡ 3 ∷ []
unfolding closure_of reached included path_of pieces_of lines_of kind_of directive_kind kind_after_hash named_kind target_of is_punctuator found first_number candidates folder_part simple_path number_of is_utf8 chars encode piece line file shelf_of chain
no_file = refl

-- `a` includes `c` and `b`, of which `c` includes `d` and `e`, and `b` includes `d`
diamond : Shelf
diamond = shelf_of (
    file (codes "a") (line (codes "\"c\"") ++ line (codes "\"b\"")) ∷ file (codes "b") (line (codes "\"d\""))
    ∷ file (codes "c") (line (codes "\"d\"") ++ line (codes "\"e\"")) ∷ file (codes "d") [] ∷ file (codes "e") [] ∷ [])

breadth_first : closure_of diamond 0 ≡ 0 ∷ 2 ∷ 1 ∷ 3 ∷ 4 ∷ []
unfolding closure_of reached included path_of pieces_of lines_of kind_of directive_kind kind_after_hash named_kind target_of is_punctuator found first_number candidates folder_part simple_path number_of is_utf8 chars encode piece line file shelf_of diamond
breadth_first = refl

-- `a` includes itself and `b`, and `b` includes `a`
circle : Shelf
circle = shelf_of (file (codes "a") (line (codes "\"a\"") ++ line (codes "\"b\"")) ∷ file (codes "b") (line (codes "\"a\"")) ∷ [])

round_once : closure_of circle 1 ≡ 1 ∷ 0 ∷ []
unfolding closure_of reached included path_of pieces_of lines_of kind_of directive_kind kind_after_hash named_kind target_of is_punctuator found first_number candidates folder_part simple_path number_of is_utf8 chars encode piece line file shelf_of circle
round_once = refl

-- an include that leads nowhere, and one in a group that is not chosen
mixed : Shelf
mixed = shelf_of (
    file (codes "a") (line (codes "\"n\"")
    ++ piece true Punct (codes "#") ∷ piece false Name (codes "if") ∷ piece false Number (codes "0") ∷ (line (codes "\"b\"")
    ++ piece true Punct (codes "#") ∷ piece false Name (codes "endif") ∷ []))
    ∷ file (codes "b") [] ∷ [])

skipped_is_followed : closure_of mixed 0 ≡ 0 ∷ 1 ∷ []
unfolding closure_of reached included path_of pieces_of lines_of kind_of directive_kind kind_after_hash named_kind target_of is_punctuator found first_number candidates folder_part simple_path number_of is_utf8 chars encode piece line file shelf_of mixed
skipped_is_followed = refl
