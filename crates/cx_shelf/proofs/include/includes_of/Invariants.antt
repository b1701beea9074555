use Rattle.std.proofs.Common.{◌≡◌, ◌++◌, length}
use Rattle.std.specs.List.{filter_map}
use Rattle.cx_shelf.specs.Includes.{include_name_of}
use Rattle.cx_lines.specs.Lines.{lines_of}
use Rattle.cx_shelf.proofs.include.includes_of.Given as goal

abbrev pub invariant-loop-line : goal.invariant-loop-line
invariant-loop-line l =
    filter_map include_name_of (lines_of l.fn.lexed.pieces)
    ≡ l.names ++ filter_map include_name_of (lines_of l.pieces)

abbrev pub decreases-loop-line : goal.decreases-loop-line
decreases-loop-line l = length l.pieces
