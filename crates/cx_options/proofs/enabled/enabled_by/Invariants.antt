use Rattle.std.proofs.Common.{◌≡◌, ◌+◌, length, Some}
use Rattle.std.specs.Option.{option_map_or}
use Rattle.cx_options.specs.Arguments.{enabled, enabled_by, with_others}
use Rattle.cx_options.specs.Shapes.Naming.{names_of}
use Rattle.cx_options.proofs.enabled.enabled_by.Given as goal

abbrev pub invariant-loop-rest : goal.invariant-loop-rest
invariant-loop-rest l = with_others (Some l.all) (enabled_by (names_of l.rest)) ≡ enabled l.fn.names

abbrev pub decreases-loop-rest : goal.decreases-loop-rest
decreases-loop-rest l = option_map_or (λ names. length names.now + 1) l.rest 0
