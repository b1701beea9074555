use Rattle.std.proofs.Common.{◌≡◌, ◌++◌, map, take}
use Rattle.cx_run.specs.Reports.{progress_piece}
use Rattle.cx_run.proofs.pieces.push_progress.Given as goal

abbrev pub invariant-loop-line : goal.invariant-loop-line
invariant-loop-line l = l.pieces ≡ l.initial.pieces ++ map progress_piece (take l.line-index l.line-items)
