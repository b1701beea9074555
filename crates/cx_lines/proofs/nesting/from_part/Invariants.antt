use Rattle.std.proofs.Common.{◌≡◌, ◌+◌, ◌≤◌, length}
use Rattle.cx_lines.specs.Lines.{lines_of}
use Rattle.cx_lines.specs.Nesting.{from_part}
use Rattle.cx_lines.proofs.nesting.from_part.Given as goal

abbrev pub invariant-loop-line : goal.invariant-loop-line
invariant-loop-line l =
    (from_part 0 (lines_of l.lines) ≡ from_part l.nested (lines_of l.rest)) × (l.nested + length l.rest ≤ length l.lines)

abbrev pub decreases-loop-line : goal.decreases-loop-line
decreases-loop-line l = length l.rest
