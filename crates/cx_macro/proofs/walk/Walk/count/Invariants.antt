use Rattle.std.proofs.Common.{◌≡◌, ◌+◌, length}
use Rattle.cx_macro.proofs.walk.Walk.count.Given as goal

abbrev pub invariant-loop-token : goal.invariant-loop-token
invariant-loop-token l = l.found + length l.walk ≡ length l.initial.walk

abbrev pub decreases-loop-token : goal.decreases-loop-token
decreases-loop-token l = length l.walk
