use Rattle.std.proofs.Common.{◌≡◌, ◌++◌, drop, option_to_list}
use Rattle.cx_table.specs.NameTable.{names_of}
use Rattle.cx_directive.specs.Defines.{all_names, are_distinct}
use Rattle.cx_directive.specs.Shapes.Found.{parameters_by}
use Rattle.cx_directive.proofs.DistinctLaws.{distinct_after}
use Rattle.cx_directive.proofs.parameters.are_distinct.Given as goal

abbrev pub invariant-loop-name : goal.invariant-loop-name
invariant-loop-name l =
    distinct_after (names_of l.set) (drop l.name-index l.names ++ option_to_list l.parameters.variable) ≡ are_distinct (all_names (parameters_by l.parameters))
