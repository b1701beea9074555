-- The sections that are open after lines, the innermost first.
use Rattle.std.specs.Prelude.{◌≡◌, ℕ, zero, suc, ◌&&◌, Bool, true, false, List, [], ◌∷◌, ◌++◌, Option, Some, None, if◌then◌else◌}
use Rattle.cx_base.specs.declared.place.Place.{Place}
use Rattle.cx_lex.specs.declared.piece.Piece.{Piece}
use Rattle.cx_lines.specs.declared.kind.LineKind.{LineKind}
use Rattle.cx_lines.specs.declared.nesting.NestingFault.{NestingFault}
use Rattle.cx_lines.specs.declared.nesting.NestingFault.TheVariants.{Unclosed}
use Rattle.cx_lines.specs.declared.sections.OpenSection.{OpenSection}
use Rattle.cx_lines.specs.Kinds.{closes, ends_group, is_else, kind_of, opens, parts}
use Rattle.cx_lines.specs.Lines.{lines_of}
use Rattle.cx_lines.specs.Nesting.{Extent, Line, extent_after, extent_of, group_line, opening_line, place_of}
use Rattle.cx_lines.specs.Shapes.Cuts.{IsCut}

-- the innermost
abbrev pub innermost : List OpenSection → Option OpenSection
innermost [] = None
innermost (section ∷ sections) = Some section

-- the section in which this many others are nested
abbrev pub section_at : ℕ → List OpenSection → Option OpenSection
section_at n [] = None
section_at zero (section ∷ sections) = Some section
section_at (suc n) (section ∷ sections) = section_at n sections

-- a line of this kind goes on or ends no section
abbrev pub stray_in : List OpenSection → LineKind → Bool
stray_in [] kind = ends_group kind
stray_in (section ∷ sections) kind = parts kind && section.has_else

-- the innermost section is in the group of its `else`
abbrev pub in_else : List OpenSection → List OpenSection
in_else [] = []
in_else (section ∷ sections) = record { at = section.at; has_else = true } ∷ sections

-- without the innermost
abbrev pub outer : List OpenSection → List OpenSection
outer [] = []
outer (section ∷ sections) = sections

-- the sections that are open after a line of this kind, which stands here
unfoldable pub sections_after : LineKind → Place → List OpenSection → List OpenSection
sections_after kind at sections =
    if opens kind then record { at = at; has_else = false } ∷ sections
    else if closes kind then outer sections
    else if is_else kind then in_else sections
    else sections

-- a section, by the line that began its last group and the one that opened it
abbrev pub Stands : Option OpenSection → Option Line → Option Line → Type 0
Stands None None None = Unit {0}
Stands (Some section) (Some group) (Some opening) =
    (section.has_else ≡ is_else (kind_of group)) × (section.at ≡ place_of opening)
Stands _ _ _ = ⊥

-- AreOpen sections before: these are open after lines, of which the last is first.
pub record AreOpen (sections : List OpenSection) (before : List Line) : Type 0 where
  pub each : (n : ℕ) → Stands (section_at n sections) (group_line n before) (opening_line n before)

abbrev pub unclosed : Option OpenSection → Option NestingFault
unclosed None = None
unclosed (Some section) = Some (Unclosed section.at)

abbrev pub with_front : List Line → Extent → Extent
with_front lines e = record { front = lines ++ e.front; fault = e.fault }

-- NestsTo all rest sections: lines nest up to the rest of their pieces, where these are open.
pub record NestsTo (all rest : List Piece) (sections : List OpenSection) : Type 0 where
  pub cut : IsCut all rest
  pub before : List Line
  pub are_open : AreOpen sections before
  pub goes : extent_of (lines_of all)
      ≡ with_front (lines_of cut.front) (extent_after before (lines_of rest))
