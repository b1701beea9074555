use Rattle.std.proofs.Common.{◌≡◌, drop}
use Rattle.cx_configs.specs.Configurations.{names_defined}
use Rattle.cx_configs.specs.Shapes.Sets.{with_all_settled}
use Rattle.cx_configs.proofs.settled.Settled.insert_defines.Given as goal

abbrev pub invariant-loop-define : goal.invariant-loop-define
invariant-loop-define l =
    with_all_settled l.self (names_defined (drop l.define-index l.defines))
    ≡ with_all_settled l.initial.self (names_defined l.defines)
