-- The open groups, each with the names for which it and the groups around it ask, and as they are
-- kept: by the number of the list of these names.
use Rattle.std.specs.Prelude.{◌≡◌, ℕ, List, [], ◌∷◌, Option, None, if◌then◌else◌, map}
use Rattle.std.specs.List.{AllByRecursion}
use Rattle.cx_table.specs.NameTable.{Entries}
use Rattle.cx_lines.specs.Kinds.{closes, kind_of, opens, parts}
use Rattle.cx_lines.specs.Nesting.{Line}
use Rattle.cx_configs.specs.Questions.{Group, Name, begins_group, group_names, names_of}
use Rattle.cx_configs.specs.Shapes.Found.{IsListed, names_at}
use Rattle.cx_configs.specs.Shapes.Lists.{with_list}
use Rattle.cx_configs.specs.Shapes.Sets.{with_all, with_names}

-- A group by the line that opens its section, with the names for which it and those around it ask.
pub record NamedGroup : Type 0 where
  pub opening : Line
  pub names : List Name

-- the names of the innermost group
abbrev pub innermost_names : List NamedGroup → List Name
innermost_names [] = []
innermost_names (g ∷ gs) = g.names

-- within these groups, the group that a line begins in the section that another opens
abbrev pub with_group : Entries (Unit {0}) → Line → Line → List NamedGroup → List NamedGroup
with_group settled opening start around =
    record {
      opening = opening;
      names = with_all (innermost_names around)
          (with_names settled [] (group_names (record { opening = opening; start = start })));
    } ∷ around

-- the groups outside of the innermost section
abbrev pub outer : List NamedGroup → List NamedGroup
outer [] = []
outer (g ∷ gs) = gs

-- the innermost section goes on with the group that a line begins
abbrev pub with_next : Entries (Unit {0}) → Line → List NamedGroup → List NamedGroup
with_next settled line [] = []
with_next settled line (g ∷ gs) = with_group settled g.opening line gs

-- the groups that are open behind a line
unfoldable pub groups_after : Entries (Unit {0}) → Line → List NamedGroup → List NamedGroup
groups_after settled line groups =
    if opens (kind_of line) then with_group settled line line groups
    else if parts (kind_of line) then with_next settled line groups
    else if closes (kind_of line) then outer groups
    else groups

-- lists with that of the group that a line begins
unfoldable pub lists_after : Entries (Unit {0}) → Line → List NamedGroup → List (List Name)
    → List (List Name)
lists_after settled line groups lists =
    if begins_group line
    then with_list None lists (innermost_names (groups_after settled line groups)) else lists

-- A group by the line that opens its section, with the number of the list of its names, if it has
-- names.
pub record NumberedGroup : Type 0 where
  pub opening : Line
  pub number : Option ℕ

-- the number of the innermost group
abbrev pub innermost_number : List NumberedGroup → Option ℕ
innermost_number [] = None
innermost_number (g ∷ gs) = g.number

-- numbered groups with the names of their lists
abbrev pub named : List (List Name) → List NumberedGroup → List NamedGroup
named lists groups =
    map (λ g. record { opening = g.opening; names = names_at lists g.number }) groups

-- the numbers of groups are those of lists
abbrev pub AreListed : List (List Name) → List NumberedGroup → Type 0
AreListed lists groups = AllByRecursion (λ g. IsListed lists g.number) groups

-- Numbered groups stand for groups with names.
pub record StandFor (lists : List (List Name)) (numbered : List NumberedGroup)
    (groups : List NamedGroup) : Type 0 where
  pub listed : AreListed lists numbered
  pub are : named lists numbered ≡ groups

-- groups with their names
unfoldable pub open_groups : Entries (Unit {0}) → List Group → List NamedGroup
open_groups settled [] = []
open_groups settled (g ∷ gs) =
    record { opening = g.opening; names = with_names settled [] (names_of (g ∷ gs)) }
    ∷ open_groups settled gs
