use Rattle.std.proofs.Common.{◌+◌, ◌*◌, length}
use Rattle.cx_lines.specs.Lines.{lines_of}
use Rattle.cx_pre.specs.Choosing.{Comes, Enters, extent_in}
use Rattle.cx_pre.specs.Stages.{Outcome}
use Rattle.cx_pre.proofs.files.+files.Given as goal

abbrev pub decreases-go_through : goal.decreases-go_through
decreases-go_through l = 2 * l.depth + 1

abbrev pub decreases-include : goal.decreases-include
decreases-include l = 2 * l.depth

abbrev pub invariant-go_through-loop-line : goal.invariant-go_through-loop-line
invariant-go_through-loop-line l =
    (outcome : Outcome)
    → Comes l.context.shelf.now l.depth l.file (extent_in l.context.shelf.now l.file).fault l.stage (lines_of l.lines) outcome
    → Enters l.context.shelf.now l.depth l.file l.fn.stage outcome

abbrev pub decreases-go_through-loop-line : goal.decreases-go_through-loop-line
decreases-go_through-loop-line l = length l.lines
