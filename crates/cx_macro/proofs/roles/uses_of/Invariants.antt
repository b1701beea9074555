use Rattle.std.proofs.Common.{length}
use Rattle.cx_macro.proofs.RoleLaws.{AreUsesSoFar}
use Rattle.cx_macro.proofs.roles.uses_of.Given as goal

abbrev pub invariant-loop-position : goal.invariant-loop-position
invariant-loop-position l = AreUsesSoFar l.lookup l.roles.items l.expanded.items l.raw.items l.positions

abbrev pub decreases-loop-position : goal.decreases-loop-position
decreases-loop-position l = length l.positions
