use Rattle.std.proofs.Common.{length}
use Rattle.cppcheck.proofs.arguments.push_lossy.Given as goal

abbrev pub decreases-loop-error : goal.decreases-loop-error
decreases-loop-error l = length l.rest
