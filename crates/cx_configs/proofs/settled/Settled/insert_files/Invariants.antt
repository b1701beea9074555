use Rattle.std.proofs.Common.{◌≡◌, drop}
use Rattle.std.specs.List.{filter_map, flat_map}
use Rattle.cx_configs.specs.Configurations.{defined_name, lines_in}
use Rattle.cx_configs.specs.Shapes.Sets.{with_all_settled}
use Rattle.cx_configs.proofs.settled.Settled.insert_files.Given as goal

abbrev pub invariant-loop-file : goal.invariant-loop-file
invariant-loop-file l =
    with_all_settled l.self (flat_map (λ lines. filter_map defined_name lines) (lines_in l.shelf (drop l.file-index l.files)))
    ≡ with_all_settled l.initial.self (flat_map (λ lines. filter_map defined_name lines) (lines_in l.shelf l.files))
