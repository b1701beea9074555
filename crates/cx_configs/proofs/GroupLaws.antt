-- Groups with their names, behind a line.
use Rattle.std.proofs.Common.{◌≡◌, List, [], ◌∷◌, ◌++◌, length, reverse, Option, Some, None, Bool, true, false, not, refl, sym, ap, ◌∙◌, arith}
use Rattle.std.specs.Prelude.{filter, fold, if◌then◌else◌, option_to_list}
use Rattle.std.specs.List.{cons_option}
use Rattle.std.proofs.lemmas.List.{reverse-append}
use Rattle.std.proofs.lemmas.List.Elements.{filter-append}
use Rattle.std.proofs.lemmas.List.Sums.{fold-append}
use Rattle.cx_table.specs.NameTable.{Entries}
use Rattle.cx_tokens.specs.declared.token.Token.{Token}
use Rattle.cx_lines.specs.declared.kind.LineKind.{LineKind}
use Rattle.cx_lines.specs.declared.kind.LineKind.TheVariants.{If, Ifdef, Ifndef, Elif, Else}
use Rattle.cx_lines.specs.Kinds.{closes, kind_of, opens, parts}
use Rattle.cx_lines.specs.Nesting.{Line}
use Rattle.cx_configs.specs.Questions.{Group, Name, else_names, group_names, groups_behind, is_not, name_asked, names_asked, names_by, names_of, next_group, outer_groups}
use Rattle.cx_configs.specs.Shapes.Groups.{NumberedGroup, groups_after, innermost_names, open_groups, outer, with_group, with_next}
use Rattle.cx_configs.specs.Shapes.Sets.{is_settled, with_all, with_name, with_names}
use Rattle.cx_configs.proofs.HoldLaws.{with_own_names}

-- names that are put in one list after the other
pub with_names_append : (settled : Entries (Unit {0})) (set a b : List Name)
    → with_names settled (with_names settled set a) b ≡ with_names settled set (a ++ b)
unfolding with_names
with_names_append settled set a b =
    sym (ap (fold with_name set) (filter-append (λ n. not (is_settled settled n)) a b)
    ∙ fold-append with_name set (filter (λ n. not (is_settled settled n)) a) (filter (λ n. not (is_settled settled n)) b))

pub no_names_more : (settled : Entries (Unit {0})) (set : List Name) → with_names settled set [] ≡ set
unfolding with_names
no_names_more settled set = refl

-- the names of a condition, one token further
pub asks_next : (settled : Entries (Unit {0})) (set : List Name) (is_negated : Bool) (t : Token) (ts : List Token)
    → with_names settled set (names_asked is_negated (t ∷ ts))
    ≡ with_names settled (with_names settled set (option_to_list (name_asked is_negated t ts))) (names_asked (is_not t) ts)
unfolding names_asked
asks_next settled set is_negated t ts =
    ap (with_names settled set) (by (name_asked is_negated t ts))
    ∙ sym (with_names_append settled set (option_to_list (name_asked is_negated t ts)) (names_asked (is_not t) ts))
  where
    by : (name : Option Name) → cons_option name (names_asked (is_not t) ts) ≡ option_to_list name ++ names_asked (is_not t) ts
    by None = refl
    by (Some name) = refl

pub asks_no_more : (settled : Entries (Unit {0})) (set : List Name) (is_negated : Bool)
    → with_names settled set (names_asked is_negated []) ≡ set
unfolding names_asked
asks_no_more settled set is_negated = no_names_more settled set

pub none_left : {A : Type 0} (xs : List A) → length xs ≡ 0 → xs ≡ []
none_left [] e = refl
none_left (x ∷ xs) e = absurd (omega (arith, e))

-- groups of other kinds ask for nothing
pub else_asks_nothing : (kind : LineKind) (opening : Line) → (kind ≡ Ifndef → ⊥) → else_names kind opening ≡ []
else_asks_nothing Ifndef opening n = absurd (n refl)
else_asks_nothing _ opening n = refl

pub asks_nothing : (kind : LineKind) (g : Group) → (kind ≡ If → ⊥) → (kind ≡ Elif → ⊥) → (kind ≡ Ifdef → ⊥) → (kind ≡ Else → ⊥) → names_by kind g ≡ []
asks_nothing If g i f d e = absurd (i refl)
asks_nothing Elif g i f d e = absurd (f refl)
asks_nothing Ifdef g i f d e = absurd (d refl)
asks_nothing Else g i f d e = absurd (e refl)
asks_nothing _ g i f d e = refl

pub innermost_names_are : (settled : Entries (Unit {0})) (gs : List Group)
    → innermost_names (open_groups settled gs) ≡ with_names settled [] (names_of gs)
unfolding open_groups names_of with_names
innermost_names_are settled [] = refl
innermost_names_are settled (g ∷ gs) = refl

-- a group within others
within : (settled : Entries (Unit {0})) (opening start : Line) (gs : List Group)
    → with_group settled opening start (open_groups settled gs)
    ≡ open_groups settled (record { opening = opening; start = start } ∷ gs)
unfolding open_groups names_of
within settled opening start gs =
    ap (λ set. record { opening = opening; names = set } ∷ open_groups settled gs)
    (ap (λ set. with_all set (with_names settled [] (group_names (record { opening = opening; start = start })))) (innermost_names_are settled gs)
    ∙ with_own_names settled (names_of gs) (group_names (record { opening = opening; start = start }))
    ∙ with_names_append settled [] (names_of gs) (group_names (record { opening = opening; start = start })))

next : (settled : Entries (Unit {0})) (line : Line) (gs : List Group)
    → with_next settled line (open_groups settled gs) ≡ open_groups settled (next_group line gs)
unfolding open_groups
next settled line [] = refl
next settled line (g ∷ gs) = within settled g.opening line gs

outside : (settled : Entries (Unit {0})) (gs : List Group) → outer (open_groups settled gs) ≡ open_groups settled (outer_groups gs)
unfolding open_groups
outside settled [] = refl
outside settled (g ∷ gs) = refl

-- the groups that are kept are those of the definition
pub groups_after_are : (settled : Entries (Unit {0})) (line : Line) (gs : List Group)
    → groups_after settled line (open_groups settled gs) ≡ open_groups settled (groups_behind line gs)
unfolding groups_after groups_behind
groups_after_are settled line gs = by (opens (kind_of line)) (parts (kind_of line)) (closes (kind_of line))
  where
    by : (o p c : Bool)
        → (if o then with_group settled line line (open_groups settled gs)
        else if p then with_next settled line (open_groups settled gs)
        else if c then outer (open_groups settled gs) else open_groups settled gs)
        ≡ open_groups settled (if o then record { opening = line; start = line } ∷ gs
        else if p then next_group line gs else if c then outer_groups gs else gs)
    by true p c = within settled line line gs
    by false true c = next settled line gs
    by false false true = outside settled gs
    by false false false = refl

-- outside of sections there is no group
pub no_open_groups : (settled : Entries (Unit {0})) → open_groups settled [] ≡ []
unfolding open_groups
no_open_groups settled = refl

pub pushed : (all : List NumberedGroup) (g : NumberedGroup) → reverse (all ++ g ∷ []) ≡ g ∷ reverse all
pushed all g = reverse-append all (g ∷ [])
