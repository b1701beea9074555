-- How far a name, a number, a quoted text, a header name, a comment and a punctuator go: joined to
-- the forms of Elements by proofs/Runs, Quotes, Blocks and LongestLaws.
use Rattle.std.specs.Prelude.{ℕ, List, [], ◌∷◌, Bool, true, false, not, ◌&&◌, ◌||◌, ◌==◌, Option, Some, None, codes, if◌then◌else◌, map}
use Rattle.std.specs.Borrow.{Bor}
use Rattle.cx_tokens.specs.declared.token.Kind.{Kind}
use Rattle.cx_tokens.specs.declared.token.Kind.TheVariants.{Name, Number, Char, String, Unclosed}
use Rattle.cx_lex.specs.declared.character.Character.{Character}
use Rattle.cx_lex.specs.declared.scan.Scan.{Scan}
use Rattle.cx_lex.specs.declared.scan.Scan.TheVariants.{InName, InNumber, InQuotes, InHeader, InLineComment, InBlockComment, Closed}
use Rattle.cx_lex.specs.Characters.{is_word}
use Rattle.cx_lex.specs.Forms.{goes_on}

-- a quoted text after one more byte
unfoldable pub quoted_step : ℕ → Bool → ℕ → Scan
quoted_step quote true b = InQuotes quote false
quoted_step quote false b = if b == quote then Closed else InQuotes quote (b == 92)

-- a header name that the byte `close` ends, after one more byte
abbrev pub header_step : ℕ → ℕ → Scan
header_step close b = if b == close then Closed else InHeader close

-- a comment that `*/` ends, after one more byte; the flag tells whether a `*` of it stands before
abbrev pub block_step : Bool → ℕ → Scan
block_step star b = if star && (b == 47) then Closed else InBlockComment (b == 42)

unfoldable pub kept_if : Bool → Scan → Option Scan
kept_if keeps scan = if keeps then Some scan else None

-- how a reading goes on with a character
unfoldable pub step_of : Scan → Character → Option Scan
step_of InName c = kept_if (is_word c.code) InName
step_of (InNumber last) c = kept_if (goes_on last c.code) (InNumber c.code)
step_of (InQuotes quote paired) c = kept_if (not c.in_newline) (quoted_step quote paired c.code)
step_of (InHeader close) c = kept_if (not c.in_newline) (header_step close c.code)
step_of InLineComment c = kept_if (not c.in_newline) InLineComment
step_of (InBlockComment star) c = Some (block_step star c.code)
step_of Closed c = None

-- what belongs to a reading, how it ends, and what stands after it
pub record Scanned : Type 0 where
  pub taken : List Character
  pub end : Scan
  pub rest : List Character

abbrev pub and_before : Character → Scanned → Scanned
and_before c s = record { taken = c ∷ s.taken; end = s.end; rest = s.rest }

unfoldable pub scanned : Scan → List Character → Scanned
scanned scan [] = record { taken = []; end = scan; rest = [] }
scanned scan (c ∷ cs) =
    elim (step_of scan c) [
      | None ↦ record { taken = []; end = scan; rest = c ∷ cs }
      | Some more ↦ and_before c (scanned more cs)
    ]

abbrev pub is_closed : Scan → Bool
is_closed Closed = true
is_closed _ = false

abbrev pub closed_kind : ℕ → Kind
closed_kind quote = if quote == 39 then Char else String

-- the kind of a piece that begins with a byte and ends so
unfoldable pub scan_kind : ℕ → Scan → Kind
scan_kind begin InName = Name
scan_kind begin (InNumber last) = Number
scan_kind begin Closed = closed_kind begin
scan_kind begin _ = Unclosed

-- no `>` is left on the line
unfoldable pub is_barren : List Character → Bool
is_barren [] = true
is_barren (c ∷ cs) = c.in_newline || (not (c.code == 62) && is_barren cs)

-- what is left after a word that stands in front
unfoldable pub rest_after : List ℕ → List Character → Option (List Character)
rest_after [] cs = Some cs
rest_after (b ∷ bs) [] = None
rest_after (b ∷ bs) (c ∷ cs) = if c.code == b then rest_after bs cs else None

-- The punctuators, the longest first.
abbrev pub table : List (List ℕ)
table =
    codes "%:%:" ∷ codes "..." ∷ codes "<<=" ∷ codes ">>="
    ∷ codes "->" ∷ codes "++" ∷ codes "--" ∷ codes "<<" ∷ codes ">>" ∷ codes "<=" ∷ codes ">="
    ∷ codes "==" ∷ codes "!=" ∷ codes "&&" ∷ codes "||" ∷ codes "*=" ∷ codes "/=" ∷ codes "%="
    ∷ codes "+=" ∷ codes "-=" ∷ codes "&=" ∷ codes "^=" ∷ codes "|="
    ∷ codes "##" ∷ codes "<:" ∷ codes ":>" ∷ codes "<%" ∷ codes "%>" ∷ codes "%:"
    ∷ codes "[" ∷ codes "]" ∷ codes "(" ∷ codes ")" ∷ codes "{" ∷ codes "}" ∷ codes "." ∷ codes "&"
    ∷ codes "*" ∷ codes "+" ∷ codes "-" ∷ codes "~" ∷ codes "!" ∷ codes "/" ∷ codes "%" ∷ codes "<"
    ∷ codes ">" ∷ codes "^" ∷ codes "|" ∷ codes "?" ∷ codes ":" ∷ codes ";"
    ∷ codes "=" ∷ codes "," ∷ codes "#" ∷ []

-- a punctuator, and what is left after it
pub record FoundPunctuator : Type 0 where
  pub word : List ℕ
  pub rest : List Character

abbrev pub punctuator_or : Option (List Character) → List ℕ → Option FoundPunctuator
    → Option FoundPunctuator
punctuator_or None word more = more
punctuator_or (Some rest) word more = Some (record { word = word; rest = rest })

-- what is left after a word that begins with a character
unfoldable pub rest_after_begin : List ℕ → Character → List Character → Option (List Character)
rest_after_begin [] c cs = None
rest_after_begin (b ∷ bs) c cs = if c.code == b then rest_after bs cs else None

-- the first of these words that a character begins
unfoldable pub longest : List (List ℕ) → Character → List Character → Option FoundPunctuator
longest [] c cs = None
longest (w ∷ ws) c cs = punctuator_or (rest_after_begin w c cs) w (longest ws c cs)

abbrev pub words_of : List (Bor (List ℕ)) → List (List ℕ)
words_of words = map (λ w. w.now) words

abbrev pub found_word : Option FoundPunctuator → Option (List ℕ)
found_word None = None
found_word (Some found) = Some found.word

abbrev pub found_rest : List Character → Option FoundPunctuator → List Character
found_rest others None = others
found_rest others (Some found) = found.rest
