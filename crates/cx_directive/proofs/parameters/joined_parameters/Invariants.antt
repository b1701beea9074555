use Rattle.std.proofs.Common.{◌≡◌, length, option_map}
use Rattle.cx_directive.specs.Operands.{tokens_of}
use Rattle.cx_directive.specs.Shapes.Found.{with_names}
use Rattle.cx_directive.proofs.ParameterLaws.{joined}
use Rattle.cx_directive.proofs.parameters.joined_parameters.Given as goal

abbrev pub invariant-loop-part : goal.invariant-loop-part
invariant-loop-part l = joined (tokens_of l.fn.inner) ≡ option_map (with_names l.names) (joined (tokens_of l.left))

abbrev pub decreases-loop-part : goal.decreases-loop-part
decreases-loop-part l = length l.left
