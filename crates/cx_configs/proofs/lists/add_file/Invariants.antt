use Rattle.std.proofs.Common.{length}
use Rattle.cx_configs.specs.Shapes.Asks.{Asks}
use Rattle.cx_configs.proofs.lists.add_file.Given as goal

abbrev pub invariant-loop-line : goal.invariant-loop-line
invariant-loop-line l = Asks l.most l.settled l.pieces l.rest l.groups l.initial.lists l.lists

abbrev pub decreases-loop-line : goal.decreases-loop-line
decreases-loop-line l = length l.rest
