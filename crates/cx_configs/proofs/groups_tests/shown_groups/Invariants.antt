use Rattle.cx_configs.specs.Shapes.Groups.{AreListed}
use Rattle.cx_configs.proofs.groups_tests.shown_groups.Given as goal

abbrev pub invariant-loop : goal.invariant-loop
invariant-loop l = AreListed l.lists l.groups
