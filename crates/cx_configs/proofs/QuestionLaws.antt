-- Lines with whole sections ask nothing of the lines behind them.
use Rattle.std.proofs.Common.{◌≡◌, List, [], ◌∷◌, ◌++◌, Bool, true, false, refl, ap, ◌∙◌}
use Rattle.std.specs.Prelude.{◌||◌, All, if◌then◌else◌}
use Rattle.std.proofs.lemmas.List.Elements.{All-head, All-tail}
use Rattle.cx_lines.specs.declared.kind.LineKind.{LineKind}
use Rattle.cx_lines.specs.declared.kind.LineKind.TheVariants.{If, Ifdef, Ifndef, Elif, Else, Endif}
use Rattle.cx_lines.specs.Kinds.{closes, ends_group, kind_of, opens, parts}
use Rattle.cx_lines.specs.Nesting.{Line}
use Rattle.cx_lines.specs.Whole.{AreWhole, IsBody, IsLast}
use Rattle.cx_lines.specs.Whole.AreWhole.{no_lines, plain, section}
use Rattle.cx_lines.specs.Whole.IsBody.{one_group, with_elif, with_else}
use Rattle.cx_lines.specs.Whole.IsLast.{last}
use Rattle.cx_configs.specs.Questions.{Group, Name, asked_lists, begins_group, groups_behind, names_of, next_group, outer_groups, with_list}

-- the groups that are open behind lines, of which these were open before them
abbrev pub groups_behind_all : List Line → List Group → List Group
groups_behind_all [] groups = groups
groups_behind_all (line ∷ lines) groups = groups_behind_all lines (groups_behind line groups)

pub behind_append : (a b : List Line) (groups : List Group)
    → groups_behind_all (a ++ b) groups ≡ groups_behind_all b (groups_behind_all a groups)
behind_append [] b groups = refl
behind_append (line ∷ a) b groups = behind_append a b (groups_behind line groups)

with_list_append : (given : Bool) (names : List Name) (a b : List (List Name))
    → with_list given names (a ++ b) ≡ with_list given names a ++ b
with_list_append true names a b = refl
with_list_append false names a b = refl

-- what lines ask for, one part after the other
pub asked_append : (a b : List Line) (groups : List Group)
    → asked_lists groups (a ++ b) ≡ asked_lists groups a ++ asked_lists (groups_behind_all a groups) b
unfolding asked_lists
asked_append [] b groups = refl
asked_append (line ∷ a) b groups =
    ap (with_list (begins_group line) (names_of (groups_behind line groups))) (asked_append a b (groups_behind line groups))
    ∙ with_list_append (begins_group line) (names_of (groups_behind line groups)) (asked_lists (groups_behind line groups) a)
    (asked_lists (groups_behind_all a (groups_behind line groups)) b)

-- behind a line of each kind

abbrev behind_by : Bool → Bool → Bool → Line → List Group → List Group
behind_by o p c line groups =
    if o then record { opening = line; start = line } ∷ groups
    else if p then next_group line groups
    else if c then outer_groups groups
    else groups

opened : (kind : LineKind) (line : Line) (groups : List Group) → opens kind ≡ true
    → behind_by (opens kind) (parts kind) (closes kind) line groups ≡ record { opening = line; start = line } ∷ groups
opened kind line groups e = ap (λ o. behind_by o (parts kind) (closes kind) line groups) e

closed : (kind : LineKind) (line : Line) (g : Group) (groups : List Group) → closes kind ≡ true
    → behind_by (opens kind) (parts kind) (closes kind) line (g ∷ groups) ≡ groups
closed Endif line g groups e = refl
closed _ line g groups e = absurd cc

plain_by : (kind : LineKind) (line : Line) (groups : List Group) → opens kind ≡ false → ends_group kind ≡ false
    → behind_by (opens kind) (parts kind) (closes kind) line groups ≡ groups
plain_by If line groups o e = absurd cc
plain_by Ifdef line groups o e = absurd cc
plain_by Ifndef line groups o e = absurd cc
plain_by Elif line groups o e = absurd cc
plain_by Else line groups o e = absurd cc
plain_by Endif line groups o e = absurd cc
plain_by _ line groups o e = refl

behind_opening : (line : Line) (groups : List Group) → opens (kind_of line) ≡ true
    → groups_behind line groups ≡ record { opening = line; start = line } ∷ groups
unfolding groups_behind
behind_opening line groups e = opened (kind_of line) line groups e

behind_part : (line : Line) (g : Group) (groups : List Group) → opens (kind_of line) ≡ false → parts (kind_of line) ≡ true
    → groups_behind line (g ∷ groups) ≡ record { opening = g.opening; start = line } ∷ groups
unfolding groups_behind
behind_part line g groups o p =
    ap (λ b. behind_by b (parts (kind_of line)) (closes (kind_of line)) line (g ∷ groups)) o
    ∙ ap (λ b. behind_by false b (closes (kind_of line)) line (g ∷ groups)) p

behind_end : (line : Line) (g : Group) (groups : List Group) → closes (kind_of line) ≡ true → groups_behind line (g ∷ groups) ≡ groups
unfolding groups_behind
behind_end line g groups e = closed (kind_of line) line g groups e

behind_plain : (line : Line) (groups : List Group) → opens (kind_of line) ≡ false → ends_group (kind_of line) ≡ false
    → groups_behind line groups ≡ groups
unfolding groups_behind
behind_plain line groups o e = plain_by (kind_of line) line groups o e

-- behind a group and the line that goes on with its section, or ends it
behind_more : (g : Group) (groups : List Group) {lines : List Line} (group more : List Line) (part : Line)
    → groups_behind_all group (g ∷ groups) ≡ g ∷ groups → lines ≡ group ++ part ∷ more
    → opens (kind_of part) ≡ false → parts (kind_of part) ≡ true
    → groups_behind_all lines (g ∷ groups) ≡ groups_behind_all more (record { opening = g.opening; start = part } ∷ groups)
behind_more g groups group more part same e o p =
    ap (λ l. groups_behind_all l (g ∷ groups)) e
    ∙ behind_append group (part ∷ more) (g ∷ groups)
    ∙ ap (groups_behind_all (part ∷ more)) same
    ∙ ap (groups_behind_all more) (behind_part part g groups o p)

behind_last : (g : Group) (groups : List Group) {lines : List Line} (group : List Line) (end : Line)
    → groups_behind_all group (g ∷ groups) ≡ g ∷ groups → closes (kind_of end) ≡ true → lines ≡ group ++ end ∷ []
    → groups_behind_all lines (g ∷ groups) ≡ groups
behind_last g groups group end same c e =
    ap (λ l. groups_behind_all l (g ∷ groups)) e
    ∙ behind_append group (end ∷ []) (g ∷ groups)
    ∙ ap (groups_behind_all (end ∷ [])) same
    ∙ behind_end end g groups c

-- Behind lines with whole sections the same groups are open as before them.
mutual
  pub behind_whole : {lines : List Line} → AreWhole lines → (groups : List Group) → groups_behind_all lines groups ≡ groups
  behind_whole no_lines groups = refl
  behind_whole (plain {line = line} {rest = rest} o e w) groups =
      ap (groups_behind_all rest) (behind_plain line groups o e) ∙ behind_whole w groups
  behind_whole (section {line = line} {lines = lines} inner rest o b w e) groups =
      ap (groups_behind_all lines) (behind_opening line groups o)
      ∙ ap (λ l. groups_behind_all l (record { opening = line; start = line } ∷ groups)) e
      ∙ behind_append inner rest (record { opening = line; start = line } ∷ groups)
      ∙ ap (groups_behind_all rest) (behind_body b (record { opening = line; start = line }) groups)
      ∙ behind_whole w groups

  behind_body : {lines : List Line} → IsBody lines → (g : Group) (groups : List Group) → groups_behind_all lines (g ∷ groups) ≡ groups
  behind_body (one_group group end w c e) g groups = behind_last g groups group end (behind_whole w (g ∷ groups)) c e
  behind_body (with_elif group more part w k b e) g groups =
      behind_more g groups group more part (behind_whole w (g ∷ groups)) e (ap opens k) (ap parts k)
      ∙ behind_body b (record { opening = g.opening; start = part }) groups
  behind_body (with_else group more part w k l e) g groups =
      behind_more g groups group more part (behind_whole w (g ∷ groups)) e (ap opens k) (ap parts k)
      ∙ behind_ended l (record { opening = g.opening; start = part }) groups

  behind_ended : {lines : List Line} → IsLast lines → (g : Group) (groups : List Group) → groups_behind_all lines (g ∷ groups) ≡ groups
  behind_ended (last group end w c e) g groups = behind_last g groups group end (behind_whole w (g ∷ groups)) c e

-- whole sections ask nothing of the lines behind them
pub whole_ask_apart : (lines rest : List Line) → AreWhole lines → (groups : List Group)
    → asked_lists groups (lines ++ rest) ≡ asked_lists groups lines ++ asked_lists groups rest
whole_ask_apart lines rest w groups =
    asked_append lines rest groups ∙ ap (λ gs. asked_lists groups lines ++ asked_lists gs rest) (behind_whole w groups)

-- a line that is no part of a section
abbrev pub IsPlain : Line → Type 0
IsPlain line = (opens (kind_of line) ≡ false) × (ends_group (kind_of line) ≡ false)

first_false : (a b : Bool) → (a || b) ≡ false → a ≡ false
first_false true b e = absurd cc
first_false false b e = refl

begins_none : (o p : Bool) → o ≡ false → p ≡ false → (o || p) ≡ false
begins_none false false e f = refl
begins_none true p e f = absurd cc
begins_none false true e f = absurd cc

-- lines without conditional ones ask for nothing
pub plain_ask_nothing : (lines : List Line) → All IsPlain lines → (groups : List Group) → asked_lists groups lines ≡ []
unfolding asked_lists
plain_ask_nothing [] h groups = refl
plain_ask_nothing (line ∷ lines) h groups =
    let here = All-head IsPlain line lines h in
    ap (λ b. with_list b (names_of (groups_behind line groups)) (asked_lists (groups_behind line groups) lines))
    (begins_none (opens (kind_of line)) (parts (kind_of line)) here.0 (first_false (parts (kind_of line)) (closes (kind_of line)) here.1))
    ∙ plain_ask_nothing lines (All-tail IsPlain line lines h) (groups_behind line groups)
