use Rattle.std.proofs.Common.{◌≡◌, [], length}
use Rattle.cx_condition.specs.Shapes.Machine.{ran}
use Rattle.cx_condition.specs.declared.condition.State.TheVariants.{Wait}
use Rattle.cx_condition.proofs.condition.evaluated.Given as goal

abbrev pub invariant-loop-part : goal.invariant-loop-part
invariant-loop-part l = ran [] Wait l.parts ≡ ran l.frames l.state l.rest

abbrev pub decreases-loop-part : goal.decreases-loop-part
decreases-loop-part l = length l.rest
