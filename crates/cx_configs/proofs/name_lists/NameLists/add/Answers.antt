use Rattle.std.proofs.Common.{◌≡◌, true, false, length, ap, ◌∙◌, map, rules}
use Rattle.std.specs.Prelude.{◌==◌}
use Rattle.cx_configs.specs.Configurations.{has_names}
use Rattle.cx_configs.specs.Shapes.Sets.{with_all}
use Rattle.cx_configs.proofs.FoundLaws.{added_has_names, found_stays, nothing_added, seen_has_names}
use Rattle.cx_configs.proofs.name_lists.NameLists.add.Goals as goal

pub returns-then-is_empty-clause-lists : goal.returns-then-is_empty-clause-lists
returns-then-is_empty-clause-lists c =
    let none : (length c.in_ok-added.added.items == 0) ≡ true = search rules in
    nothing_added (λ n. n.now) c.args.self.now c.args.around c.in_ok-added.added.items c.args.names.now c.requires none
    c.in_ok-added.ensures

pub returns-in-Some-clause-lists : goal.returns-in-Some-clause-lists
returns-in-Some-clause-lists c =
    found_stays c.args.self.now (record {
      around = c.args.around;
      added = map (λ n. n.now) c.in_ok-added.added.items;
      number = c.in-Some.number;
    }) c.args.names.now c.in-Some.ensures c.in_ok-added.ensures

pub put-requires-clause-given : goal.put-requires-clause-given
put-requires-clause-given c =
    let some : (length c.in_ok-added.added.items == 0) ≡ false = search rules in
    ap has_names (c.in_ok-insert_all.ensures
    ∙ ap (λ slice. with_all c.in_ok-names.names (map (λ n. n.now) slice)) c.as_slice.ensures.value)
    ∙ added_has_names c.in_ok-names.names (map (λ n. n.now) c.in_ok-added.added.items)
    (seen_has_names (λ n. n.now) c.in_ok-added.added.items some)
