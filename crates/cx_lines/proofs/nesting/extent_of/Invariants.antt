use Rattle.std.proofs.Common.{length}
use Rattle.cx_lines.specs.Shapes.Sections.{NestsTo}
use Rattle.cx_lines.proofs.nesting.extent_of.Given as goal

abbrev pub invariant-loop-line : goal.invariant-loop-line
invariant-loop-line l = NestsTo l.lines l.rest l.sections

abbrev pub decreases-loop-line : goal.decreases-loop-line
decreases-loop-line l = length l.rest
