use Rattle.std.proofs.Common.{◌≡◌, length}
use Rattle.cx_condition.specs.Shapes.Machine.{settled}
use Rattle.cx_condition.proofs.frame.Frames.settle.Given as goal

abbrev pub invariant-loop-frame : goal.invariant-loop-frame
invariant-loop-frame l = settled l.reach l.fn.self l.fn.operand ≡ settled l.reach l.self l.operand

abbrev pub decreases-loop-frame : goal.decreases-loop-frame
decreases-loop-frame l = length l.self
