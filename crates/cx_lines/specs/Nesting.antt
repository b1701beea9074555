-- How sections nest (C11 6.10): `if`, `ifdef` or `ifndef`, groups of lines with `elif` and `else`
-- between, and `endif`. A number says how many sections are open that are nested within the one
-- that is looked at.
use Rattle.std.specs.Prelude.{◌≡◌, ℕ, ◌+◌, ◌-◌, ◌==◌, ◌&&◌, ◌||◌, not, Bool, true, false, List, [], ◌∷◌, ◌++◌, Option, Some, None, if◌then◌else◌}
use Rattle.cx_base.specs.declared.place.Place.{Place}
use Rattle.cx_lex.specs.declared.piece.Piece.{Piece}
use Rattle.cx_lines.specs.declared.kind.LineKind.{LineKind}
use Rattle.cx_lines.specs.declared.nesting.NestingFault.{NestingFault}
use Rattle.cx_lines.specs.declared.nesting.NestingFault.TheVariants.{Stray, Unclosed}
use Rattle.cx_lines.specs.Kinds.{closes, ends_group, is_else, kind_of, opens, parts}

abbrev pub Line : Type 0
Line = List Piece

-- The lines of a group that is passed over, up to where it ends: the lines from the `elif`, `else`
-- or `endif` on that ends it.
unfoldable pub from_part : ℕ → List Line → List Line
from_part nested [] = []
from_part nested (line ∷ lines) =
    if opens (kind_of line) then from_part (nested + 1) lines
    else if ends_group (kind_of line) && (nested == 0) then line ∷ lines
    else if closes (kind_of line) then from_part (nested - 1) lines
    else from_part nested lines

-- The lines after the `endif` of the section in which these stand.
unfoldable pub after_section : ℕ → List Line → List Line
after_section nested [] = []
after_section nested (line ∷ lines) =
    if opens (kind_of line) then after_section (nested + 1) lines
    else if closes (kind_of line) && (nested == 0) then lines
    else if closes (kind_of line) then after_section (nested - 1) lines
    else after_section nested lines

-- The line that began the group in which the next line stands, by the lines before, the last of
-- them first; none outside of sections.
unfoldable pub group_line : ℕ → List Line → Option Line
group_line nested [] = None
group_line nested (line ∷ before) =
    if closes (kind_of line) then group_line (nested + 1) before
    else if (opens (kind_of line) || parts (kind_of line)) && (nested == 0) then Some line
    else if opens (kind_of line) then group_line (nested - 1) before
    else group_line nested before

-- The line that opened the innermost section in which the next line stands.
unfoldable pub opening_line : ℕ → List Line → Option Line
opening_line nested [] = None
opening_line nested (line ∷ before) =
    if closes (kind_of line) then opening_line (nested + 1) before
    else if opens (kind_of line) && (nested == 0) then Some line
    else if opens (kind_of line) then opening_line (nested - 1) before
    else opening_line nested before

-- Where a line stands: its first piece.
unfoldable pub place_of : Line → Place
place_of [] = record { file = 0; line = 0; column = 0 }
place_of (p ∷ ps) = p.token.place

-- A part after this group: an `elif` or `else` has a group before it that is no `else`'s, and an
-- `endif` one of any kind.
abbrev pub goes_after : LineKind → Option Line → Bool
goes_after kind None = false
goes_after kind (Some group) = closes kind || not (is_else (kind_of group))

-- An `elif`, `else` or `endif` with no section that it goes on or ends.
unfoldable pub is_stray : List Line → Line → Bool
is_stray before line =
    ends_group (kind_of line) && not (goes_after (kind_of line) (group_line 0 before))

-- How far lines nest: up to a stray line, or all of them, of which the last section may be open.
pub record Extent : Type 0 where
  pub front : List Line
  pub fault : Option NestingFault

-- the same with a line before it
abbrev pub with_line : Line → Extent → Extent
with_line line e = record { front = line ∷ e.front; fault = e.fault }

abbrev pub open_fault : Option Line → Option NestingFault
open_fault None = None
open_fault (Some line) = Some (Unclosed (place_of line))

-- how far lines nest after others, of which the last is first
unfoldable pub extent_after : List Line → List Line → Extent
extent_after before [] = record { front = []; fault = open_fault (opening_line 0 before) }
extent_after before (line ∷ lines) =
    if is_stray before line then record { front = []; fault = Some (Stray (place_of line)) }
    else with_line line (extent_after (line ∷ before) lines)

abbrev pub extent_of : List Line → Extent
extent_of lines = extent_after [] lines

-- Lines of which each section that opens is closed, whatever parts it has.
mutual
  pub data AreNested : List Line → Type 0 where
    no_lines : AreNested []
    plain : {line : Line} {rest : List Line} → opens (kind_of line) ≡ false
        → ends_group (kind_of line) ≡ false → AreNested rest → AreNested (line ∷ rest)
    section : {line : Line} {lines : List Line} (inner rest : List Line)
        → opens (kind_of line) ≡ true → IsInner inner → AreNested rest → lines ≡ inner ++ rest
        → AreNested (line ∷ lines)

  -- The groups of a section after its first line, up to its `endif`.
  pub data IsInner : List Line → Type 0 where
    last_group : {lines : List Line} (group : List Line) (end : Line) → AreNested group
        → closes (kind_of end) ≡ true → lines ≡ group ++ end ∷ [] → IsInner lines
    group_more : {lines : List Line} (group more : List Line) (part : Line) → AreNested group
        → parts (kind_of part) ≡ true → IsInner more → lines ≡ group ++ part ∷ more
        → IsInner lines
