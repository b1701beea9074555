-- What stands after the name of a directive.
use Rattle.std.specs.Prelude.{ℕ, List, [], ◌∷◌, ◌++◌, Option, Some, None, Bool, true, false, if◌then◌else◌, drop, map, take, length, ◌-◌, ◌==◌}
use Rattle.cx_tokens.specs.declared.token.Kind.{Kind}
use Rattle.cx_tokens.specs.declared.token.Kind.TheVariants.{Header}
use Rattle.cx_tokens.specs.declared.token.Token.{Token}
use Rattle.cx_tokens.specs.Simplified.{is_name}
use Rattle.cx_lex.specs.declared.piece.Piece.{Piece}
use Rattle.cx_directive.specs.declared.include.IncludeName.{IncludeName}
use Rattle.cx_directive.specs.declared.include.Target.{Target}

-- the tokens of pieces
abbrev pub tokens_of : List Piece → List Token
tokens_of pieces = map (λ p. p.token) pieces

-- the tokens after the `#` and the name of a directive
abbrev pub operands : List Piece → List Token
operands line = tokens_of (drop 2 line)

-- the name that `ifdef`, `ifndef` and `undef` have; what stands behind it is passed over
abbrev pub name_of : List Token → Option (List ℕ)
name_of [] = None
name_of (t ∷ ts) = if is_name t.kind then Some t.text else None

-- tokens after others, with one space before each that is separated from the one before it
abbrev pub spelled_on : List Token → List ℕ
spelled_on [] = []
spelled_on (t ∷ ts) = (if t.space then 32 ∷ t.text else t.text) ++ spelled_on ts

-- tokens as text, with one space between two that are separated
unfoldable pub spelled : List Token → List ℕ
spelled [] = []
spelled (t ∷ ts) = t.text ++ spelled_on ts

abbrev pub is_header : Kind → Bool
is_header Header = true
is_header _ = false

-- what stands between the delimiters of a header's name
abbrev pub between : List ℕ → List ℕ
between text = take (length text - 2) (drop 1 text)

-- the form of a header's name: in `"` (34), or in `<` and `>`
abbrev pub is_quoted : List ℕ → Bool
is_quoted [] = false
is_quoted (b ∷ bs) = b == 34

-- a header's name, which stands between its delimiters
abbrev pub header_name : Token → IncludeName
header_name t = record { name = between t.text; quoted = is_quoted t.text; at = t.place }

-- What `include` has (C11 6.10.2): the name of a header, after which tokens are passed over; or
-- other tokens, which count as the quoted name that they spell and lead to no file.
unfoldable pub target_of : List Token → Option Target
target_of [] = None
target_of (t ∷ ts) =
    if is_header t.kind then Some (record { name = header_name t; computed = false })
    else Some (record {
      name = record { name = spelled (t ∷ ts); quoted = true; at = t.place };
      computed = true;
    })
