-- The names that the conditional lines of a file ask for (C11 6.10.1): a group is chosen by them.
use Rattle.std.specs.Prelude.{ℕ, List, [], ◌∷◌, ◌++◌, Bool, false, ◌&&◌, ◌||◌, not, Option, Some, None, if◌then◌else◌, codes, option_to_list}
use Rattle.std.specs.List.{cons_option}
use Rattle.cx_tokens.specs.declared.token.Token.{Token}
use Rattle.cx_tokens.specs.Brackets.{is_punctuator}
use Rattle.cx_tokens.specs.Simplified.{is_name}
use Rattle.cx_lines.specs.declared.kind.LineKind.{LineKind}
use Rattle.cx_lines.specs.declared.kind.LineKind.TheVariants.{If, Ifdef, Ifndef, Elif, Else}
use Rattle.cx_lines.specs.Kinds.{closes, kind_of, opens, parts}
use Rattle.cx_lines.specs.Nesting.{Line}
use Rattle.cx_directive.specs.Answers.{is_bracketed_name, is_question}
use Rattle.cx_directive.specs.Operands.{name_of, operands}

abbrev pub Name : Type 0
Name = List ℕ

-- `( name )` in front of tokens
abbrev pub bracketed_name : List Token → Option Name
bracketed_name (a ∷ b ∷ c ∷ ts) = if is_bracketed_name a b c then Some b.text else None
bracketed_name _ = None

-- a name in front of tokens, bare or in brackets
unfoldable pub name_in_front : List Token → Option Name
name_in_front [] = None
name_in_front (t ∷ ts) = if is_name t.kind then Some t.text else bracketed_name (t ∷ ts)

abbrev pub is_not : Token → Bool
is_not t = is_punctuator (codes "!") t

-- the name for which a token asks that is `defined`, unless a `!` stands before it
abbrev pub name_asked : Bool → Token → List Token → Option Name
name_asked is_negated t ts = if is_question t && not is_negated then name_in_front ts else None

-- the names for which the `defined` of tokens ask, of which the first stands behind a `!`, or not
unfoldable pub names_asked : Bool → List Token → List Name
names_asked is_negated [] = []
names_asked is_negated (t ∷ ts) =
    cons_option (name_asked is_negated t ts) (names_asked (is_not t) ts)

-- the name that is a whole condition
abbrev pub name_alone : List Token → Option Name
name_alone (t ∷ []) = if is_name t.kind then Some t.text else None
name_alone _ = None

-- the names for which a condition asks
unfoldable pub condition_names : List Token → List Name
condition_names tokens = option_to_list (name_alone tokens) ++ names_asked false tokens

-- A group of a section, by the line that begins it, and the line that opens the section.
pub record Group : Type 0 where
  pub opening : Line
  pub start : Line

-- the name for which `ifdef` asks, and the `else` of an `ifndef`
abbrev pub line_name : Line → List Name
line_name line = option_to_list (name_of (operands line))

abbrev pub else_names : LineKind → Line → List Name
else_names Ifndef opening = line_name opening
else_names _ opening = []

abbrev pub names_by : LineKind → Group → List Name
names_by If g = condition_names (operands g.start)
names_by Elif g = condition_names (operands g.start)
names_by Ifdef g = line_name g.start
names_by Else g = else_names (kind_of g.opening) g.opening
names_by _ g = []

-- the names for which a group asks
unfoldable pub group_names : Group → List Name
group_names g = names_by (kind_of g.start) g

-- the names for which groups ask that stand within one another, the innermost first
unfoldable pub names_of : List Group → List Name
names_of [] = []
names_of (g ∷ gs) = names_of gs ++ group_names g

-- the groups outside of the innermost section
abbrev pub outer_groups : List Group → List Group
outer_groups [] = []
outer_groups (g ∷ gs) = gs

-- the innermost section goes on with the group that a line begins
abbrev pub next_group : Line → List Group → List Group
next_group line [] = []
next_group line (g ∷ gs) = record { opening = g.opening; start = line } ∷ gs

-- The groups in which the line behind this one stands, the innermost first. An `elif`, `else` or
-- `endif` outside of sections goes on or ends none.
unfoldable pub groups_behind : Line → List Group → List Group
groups_behind line groups =
    if opens (kind_of line) then record { opening = line; start = line } ∷ groups
    else if parts (kind_of line) then next_group line groups
    else if closes (kind_of line) then outer_groups groups
    else groups

-- a line that begins a group
abbrev pub begins_group : Line → Bool
begins_group line = opens (kind_of line) || parts (kind_of line)

abbrev pub with_list : Bool → List Name → List (List Name) → List (List Name)
with_list is_given names lists = if is_given then names ∷ lists else lists

-- The lists of names for which lines ask that stand in these groups: for each line that begins a
-- group, the names for which that group and those around it ask.
unfoldable pub asked_lists : List Group → List Line → List (List Name)
asked_lists groups [] = []
asked_lists groups (line ∷ lines) =
    with_list (begins_group line) (names_of (groups_behind line groups))
    (asked_lists (groups_behind line groups) lines)
