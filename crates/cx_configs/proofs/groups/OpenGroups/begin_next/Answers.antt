use Rattle.cx_configs.proofs.NumberLaws.{nothing_begun}
use Rattle.cx_configs.proofs.groups.OpenGroups.begin_next.Goals as goal

pub returns-in_default-clause-lists : goal.returns-in_default-clause-lists
returns-in_default-clause-lists c =
    nothing_begun c.args.lists.now c.args.self.now c.args.settled.now c.args.line.now c.in_default.ensures.0
