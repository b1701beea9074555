-- Lines with whole sections: each is closed, and has at most one `else`, behind all its `elif`s
-- (C11 6.10, if-section).
use Rattle.std.specs.Prelude.{◌≡◌, ◌⊎◌, Bool, List, [], ◌∷◌, ◌++◌, true, false, Option, Some, None}
use Rattle.cx_base.specs.declared.place.Place.{Place}
use Rattle.cx_lines.specs.declared.kind.LineKind.TheVariants.{Elif, Else}
use Rattle.cx_lines.specs.declared.nesting.NestingFault.{NestingFault}
use Rattle.cx_lines.specs.declared.nesting.NestingFault.TheVariants.{Stray, Unclosed}
use Rattle.cx_lines.specs.Kinds.{closes, ends_group, kind_of, opens, parts}
use Rattle.cx_lines.specs.Nesting.{Line, place_of}

mutual
  pub data AreWhole : List Line → Type 0 where
    no_lines : AreWhole []
    plain : {line : Line} {rest : List Line} → opens (kind_of line) ≡ false
        → ends_group (kind_of line) ≡ false → AreWhole rest → AreWhole (line ∷ rest)
    section : {line : Line} {lines : List Line} (inner rest : List Line)
        → opens (kind_of line) ≡ true → IsBody inner → AreWhole rest → lines ≡ inner ++ rest
        → AreWhole (line ∷ lines)

  -- The groups of a section after its first line, up to its `endif`.
  pub data IsBody : List Line → Type 0 where
    one_group : {lines : List Line} (group : List Line) (end : Line) → AreWhole group
        → closes (kind_of end) ≡ true → lines ≡ group ++ end ∷ [] → IsBody lines
    with_elif : {lines : List Line} (group more : List Line) (part : Line) → AreWhole group
        → kind_of part ≡ Elif → IsBody more → lines ≡ group ++ part ∷ more → IsBody lines
    with_else : {lines : List Line} (group more : List Line) (part : Line) → AreWhole group
        → kind_of part ≡ Else → IsLast more → lines ≡ group ++ part ∷ more → IsBody lines

  -- A last group and the `endif` behind it.
  pub data IsLast : List Line → Type 0 where
    last : {lines : List Line} (group : List Line) (end : Line) → AreWhole group
        → closes (kind_of end) ≡ true → lines ≡ group ++ end ∷ [] → IsLast lines

-- where lines stop that nest, the rest of them begins with the stray line, or there is none
abbrev pub StopsAt : Option NestingFault → List Line → Type 0
StopsAt (Some (Stray at)) [] = ⊥
StopsAt (Some (Stray at)) (line ∷ lines) =
    (place_of line ≡ at) × (ends_group (kind_of line) ≡ true)
StopsAt (Some (Unclosed at)) lines = lines ≡ []
StopsAt None lines = lines ≡ []

-- IsStarted has_else groups: the groups of a section after its first line, of which the last may go
-- on, and is that of its `else`, or not.
pub data IsStarted : Bool → List Line → Type 0 where
  first_group : {group : List Line} → AreWhole group → IsStarted false group
  next_group : {lines : List Line} (groups group : List Line) (part : Line)
      → IsStarted false groups → kind_of part ≡ Elif → AreWhole group
      → lines ≡ groups ++ part ∷ group → IsStarted false lines
  else_group : {lines : List Line} (groups group : List Line) (part : Line)
      → IsStarted false groups → kind_of part ≡ Else → AreWhole group
      → lines ≡ groups ++ part ∷ group → IsStarted true lines

-- EndsIn has_else at lines: the innermost section that is open behind lines was opened here.
pub record EndsIn (has_else : Bool) (at : Place) (lines : List Line) : Type 0 where
  pub before : List Line
  pub opening : Line
  pub groups : List Line
  pub whole : lines ≡ before ++ opening ∷ groups
  pub opens_it : opens (kind_of opening) ≡ true
  pub place : place_of opening ≡ at
  pub started : IsStarted has_else groups

-- behind lines, this one has no section that it ends, or none that it goes on with
abbrev pub HasNoSection : List Line → Line → Type 0
HasNoSection lines line =
    (AreWhole lines × (ends_group (kind_of line) ≡ true))
    ⊎ ((at : Place) × EndsIn true at lines × (parts (kind_of line) ≡ true))

-- what is wrong behind a front of lines
abbrev pub HasFault : Option NestingFault → List Line → List Line → Type 0
HasFault None front rest = AreWhole front × (rest ≡ [])
HasFault (Some (Unclosed at)) front rest =
    (has_else : Bool) × EndsIn has_else at front × (rest ≡ [])
HasFault (Some (Stray at)) front [] = ⊥
HasFault (Some (Stray at)) front (line ∷ rest) =
    (place_of line ≡ at) × HasNoSection front line
