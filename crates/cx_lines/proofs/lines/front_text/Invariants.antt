use Rattle.std.proofs.Common.{length}
use Rattle.cx_lines.specs.Shapes.Cuts.{IsBehindText}
use Rattle.cx_lines.proofs.lines.front_text.Given as goal

abbrev pub invariant-loop-line : goal.invariant-loop-line
invariant-loop-line l = IsBehindText l.lines l.rest

abbrev pub decreases-loop-line : goal.decreases-loop-line
decreases-loop-line l = length l.rest
