-- Numbered groups, as lines begin more of them.
use Rattle.std.proofs.Common.{◌≡◌, ℕ, List, [], ◌∷◌, Option, None, Ok, Err, sym, ap, ◌∙◌}
use Rattle.std.specs.Prelude.{OnOk, Result}
use Rattle.cx_table.specs.NameTable.{Entries}
use Rattle.cx_lines.specs.Nesting.{Line}
use Rattle.cx_configs.specs.Questions.{Name, group_names}
use Rattle.cx_configs.specs.Shapes.Found.{IsListed, names_at}
use Rattle.cx_configs.specs.Shapes.Groups.{AreListed, NumberedGroup, StandFor, innermost_names, innermost_number, named, with_group, with_next}
use Rattle.cx_configs.specs.Shapes.Lists.{with_list}
use Rattle.cx_configs.specs.Shapes.Sets.{with_all, with_names}
use Rattle.cx_configs.proofs.FoundLaws.{Grows, Lists, grows_with_list, groups_listed_grown, innermost_named, named_grown}

pub on_ok : {T E P Q : Type 0} (r : Result T E) → (P → Q) → OnOk r P → OnOk r Q
on_ok (Ok x) f p = f p
on_ok (Err e) f p = p

-- a group begins within others
pub begun : (lists after : Lists) (numbered : List NumberedGroup) (settled : Entries (Unit {0})) (opening start : Line)
    (around number : Option ℕ) (own : List Name) → AreListed lists numbered → around ≡ innermost_number numbered
    → own ≡ with_names settled [] (group_names (record { opening = opening; start = start }))
    → after ≡ with_list None lists (with_all (names_at lists around) own)
    → IsListed after number → names_at after number ≡ with_all (names_at lists around) own
    → StandFor after (record { opening = opening; number = number } ∷ numbered) (with_group settled opening start (named lists numbered))
begun lists after numbered settled opening start around number own all is own_is after_is listed names =
    let g : Grows lists after = record {
      more = (grows_with_list lists (with_all (names_at lists around) own)).more;
      is = after_is ∙ (grows_with_list lists (with_all (names_at lists around) own)).is;
    } in
    let own_names = with_names settled [] (group_names (record { opening = opening; start = start })) in
    record {
      listed = (listed, groups_listed_grown g numbered all);
      are =
          ap (λ ns. record { opening = opening; names = ns } ∷ named after numbered)
          (names ∙ ap (with_all (names_at lists around)) own_is
          ∙ ap (λ n. with_all (names_at lists n) own_names) is
          ∙ ap (λ ns. with_all ns own_names) (sym (innermost_named lists numbered)))
          ∙ ap (λ gs. record { opening = opening; names = with_all (innermost_names (named lists numbered)) own_names } ∷ gs)
          (named_grown g numbered all);
    }

-- outside of sections none begins
pub nothing_begun : (lists : Lists) (numbered : List NumberedGroup) (settled : Entries (Unit {0})) (line : Line) → numbered ≡ []
    → lists ≡ with_list None lists (innermost_names (with_next settled line (named lists numbered)))
unfolding with_list
nothing_begun lists numbered settled line e =
    sym (ap (λ gs. with_list None lists (innermost_names (with_next settled line (named lists gs)))) e)
