use Rattle.std.proofs.Common.{◌≡◌, ◌+◌, ◌≤◌, length}
use Rattle.cx_lines.specs.Lines.{lines_of}
use Rattle.cx_lines.specs.Nesting.{after_section}
use Rattle.cx_lines.proofs.nesting.after_section.Given as goal

abbrev pub invariant-loop-line : goal.invariant-loop-line
invariant-loop-line l =
    (after_section 0 (lines_of l.lines) ≡ after_section l.nested (lines_of l.rest)) × (l.nested + length l.rest ≤ length l.lines)

abbrev pub decreases-loop-line : goal.decreases-loop-line
decreases-loop-line l = length l.rest
