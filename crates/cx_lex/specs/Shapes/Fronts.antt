-- The element that stands in front of a text, as the code computes it: joined to `IsElement` of
-- Elements by `element_sound` and `element_complete` of proofs/.
use Rattle.std.specs.Prelude.{ℕ, ◌-◌, List, [], ◌∷◌, Bool, false, ◌&&◌, ◌||◌, ◌==◌, Option, Some, None, drop, if◌then◌else◌, length, take}
use Rattle.cx_base.specs.declared.place.Place.{Place}
use Rattle.cx_tokens.specs.declared.token.Kind.TheVariants.{Header, Other, Punct}
use Rattle.cx_lex.specs.declared.before.Directive.{Directive}
use Rattle.cx_lex.specs.declared.before.Directive.TheVariants.{Include}
use Rattle.cx_lex.specs.declared.character.Character.{Character}
use Rattle.cx_lex.specs.declared.front.Front.{Front}
use Rattle.cx_lex.specs.declared.front.Front.TheVariants.{AtEnd, Separator, OfComment, OfPiece, OpenComment}
use Rattle.cx_lex.specs.declared.scan.Scan.{Scan}
use Rattle.cx_lex.specs.declared.scan.Scan.TheVariants.{InName, InNumber, InQuotes, InHeader, InLineComment, InBlockComment, Closed}
use Rattle.cx_lex.specs.Characters.{is_digit, is_nondigit}
use Rattle.cx_lex.specs.Elements.{Element, comment, is_separator, piece, separator}
use Rattle.cx_lex.specs.Lexing.{place_of}
use Rattle.cx_lex.specs.Lines.{bytes_of}
use Rattle.cx_lex.specs.Shapes.Scanning.{FoundPunctuator, Scanned, is_closed, longest, scan_kind, scanned, table}

-- What stands in front of a text: nothing, an element, or a comment with no end.
pub data Found : Type 0 where
  nothing : Found
  found : Element → List Character → Found
  open_comment : Place → List Character → Found

-- how a comment is read after its opening
unfoldable pub comment_scan : ℕ → ℕ → Option Scan
comment_scan b c =
    if b == 47
    then
    (if c == 47 then Some InLineComment
    else (if c == 42 then Some (InBlockComment false) else None))
    else None

abbrev pub all_but_two : List Character → List Character
all_but_two cs = take (length cs - 2) cs

abbrev pub last_two : List Character → List Character
last_two cs = drop (length cs - 2) cs

abbrev pub comment_by : List Character → Scanned → Scan → Found
comment_by opening s Closed =
    found (comment opening (all_but_two s.taken) (last_two s.taken)) s.rest
comment_by opening s (InBlockComment star) = open_comment (place_of opening) s.rest
comment_by opening s _ = found (comment opening s.taken []) s.rest

-- a comment after its opening
unfoldable pub comment_at : List Character → Scanned → Found
comment_at opening s = comment_by opening s s.end

-- the byte that ends the header name that a character begins, where one is to stand there
unfoldable pub header_close : Directive → ℕ → Option ℕ
header_close Include b = if b == 60 then Some 62 else (if b == 34 then Some 34 else None)
header_close _ b = None

abbrev pub starts_digit : List Character → Bool
starts_digit [] = false
starts_digit (c ∷ cs) = is_digit c.code

-- how a piece is read after its first character
unfoldable pub piece_scan : ℕ → List Character → Option Scan
piece_scan b cs =
    if (b == 39) || (b == 34) then Some (InQuotes b false)
    else (if is_nondigit b then Some InName
    else (if is_digit b || ((b == 46) && starts_digit cs) then Some (InNumber b) else None))

abbrev pub scanned_piece : Character → Scanned → Found
scanned_piece c s = found (piece (scan_kind c.code s.end) (c ∷ s.taken)) s.rest

-- the text of a header name that a character begins, where it ends
abbrev pub header_text : Character → Scanned → Option (List ℕ)
header_text c s = if is_closed s.end then Some (bytes_of (c ∷ s.taken)) else None

abbrev pub header_rest : List Character → Scanned → List Character
header_rest cs s = if is_closed s.end then s.rest else cs

abbrev pub punctuator_or_byte : Character → List Character → Option FoundPunctuator → Found
punctuator_or_byte c cs None = found (piece Other (c ∷ [])) cs
punctuator_or_byte c cs (Some f) = found (piece Punct (take (length f.word) (c ∷ cs))) f.rest

abbrev pub scan_or_punctuator : Character → List Character → Option Scan → Found
scan_or_punctuator c cs None = punctuator_or_byte c cs (longest table c cs)
scan_or_punctuator c cs (Some scan) = scanned_piece c (scanned scan cs)

-- a piece that is no header name
unfoldable pub plain_piece : Character → List Character → Found
plain_piece c cs = scan_or_punctuator c cs (piece_scan c.code cs)

unfoldable pub header_or : Character → List Character → Scanned → Found
header_or c cs s =
    if is_closed s.end then found (piece Header (c ∷ s.taken)) s.rest else plain_piece c cs

abbrev pub header_or_plain : Character → List Character → Option ℕ → Found
header_or_plain c cs None = plain_piece c cs
header_or_plain c cs (Some close) = header_or c cs (scanned (InHeader close) cs)

unfoldable pub piece_at : Directive → Character → List Character → Found
piece_at directive c cs = header_or_plain c cs (header_close directive c.code)

abbrev pub comment_or_piece : Directive → Character → Character → List Character → Option Scan
    → Found
comment_or_piece directive c d cs None = piece_at directive c (d ∷ cs)
comment_or_piece directive c d cs (Some scan) = comment_at (c ∷ d ∷ []) (scanned scan cs)

-- a comment or a piece
unfoldable pub solid_at : Directive → Character → List Character → Found
solid_at directive c [] = piece_at directive c []
solid_at directive c (d ∷ cs) = comment_or_piece directive c d cs (comment_scan c.code d.code)

unfoldable pub element_at : Directive → List Character → Found
element_at directive [] = nothing
element_at directive (c ∷ cs) =
    if is_separator c then found (separator c) cs else solid_at directive c cs

-- what the lexer answers of what stands in front
unfoldable pub front_of : Found → Front
front_of nothing = AtEnd
front_of (found (separator c) rest) = Separator c.in_newline
front_of (found (comment opening text end) rest) = OfComment (place_of opening) (bytes_of text)
front_of (found (piece kind cs) rest) = OfPiece (place_of cs) kind (bytes_of cs)
front_of (open_comment place rest) = OpenComment place

-- what is left after it
unfoldable pub rest_of : Found → List Character
rest_of nothing = []
rest_of (found e rest) = rest
rest_of (open_comment place rest) = rest
