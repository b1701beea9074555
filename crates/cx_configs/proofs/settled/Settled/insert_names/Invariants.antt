use Rattle.std.proofs.Common.{◌≡◌, drop}
use Rattle.cx_configs.specs.Shapes.Sets.{with_all_settled}
use Rattle.cx_configs.proofs.settled.Settled.insert_names.Given as goal

abbrev pub invariant-loop-name : goal.invariant-loop-name
invariant-loop-name l =
    with_all_settled l.self (drop l.name-index l.names) ≡ with_all_settled l.initial.self l.names
