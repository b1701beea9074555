use Rattle.std.proofs.Common.{length}
use Rattle.cx_macro.proofs.tests.list_from.Given as goal

abbrev pub decreases-loop-token : goal.decreases-loop-token
decreases-loop-token l = length l.left.items
