use Rattle.std.proofs.Common.{◌≡◌, length}
use Rattle.std.specs.List.{filter_map}
use Rattle.cx_lines.specs.Lines.{lines_of}
use Rattle.cx_configs.specs.Configurations.{defined_name}
use Rattle.cx_configs.specs.Shapes.Sets.{with_all_settled}
use Rattle.cx_configs.proofs.settled.Settled.insert_lines.Given as goal

abbrev pub invariant-loop-line : goal.invariant-loop-line
invariant-loop-line l =
    with_all_settled l.self (filter_map defined_name (lines_of l.rest))
    ≡ with_all_settled l.initial.self (filter_map defined_name (lines_of l.pieces))

abbrev pub decreases-loop-line : goal.decreases-loop-line
decreases-loop-line l = length l.rest
