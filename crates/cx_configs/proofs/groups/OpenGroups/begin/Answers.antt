use Rattle.std.proofs.Common.{ap, sym, ◌∙◌, subst}
use Rattle.cx_configs.specs.Questions.{group_names}
use Rattle.cx_configs.specs.Shapes.Groups.{StandFor, named, with_group}
use Rattle.cx_configs.specs.Shapes.Sets.{with_names}
use Rattle.cx_configs.proofs.NumberLaws.{begun, on_ok}
use Rattle.cx_configs.proofs.groups.OpenGroups.begin.Goals as goal

pub returns-clause-groups : goal.returns-clause-groups
returns-clause-groups c =
    let numbered = c.args.self.now in
    let around = named c.args.lists.now c.args.self.now in
    on_ok c.push.result (λ pushed.
    subst (λ new. StandFor c.add.new.self new (with_group c.args.settled.now c.args.opening.now c.args.start.now around)) (sym pushed)
    (begun c.args.lists.now c.add.new.self numbered c.args.settled.now c.args.opening.now c.args.start.now c.number.result c.in_ok-number.number
    c.add_group_names.new.names c.requires c.number.ensures
    (c.in_ok-add_group_names.ensures ∙ ap (λ none. with_names c.args.settled.now none (group_names (record { opening = c.args.opening.now; start = c.args.start.now }))) c.new-names.ensures)
    c.in_ok-number.ensures.lists c.in_ok-number.ensures.listed c.in_ok-number.ensures.names))
    c.push.ensures
