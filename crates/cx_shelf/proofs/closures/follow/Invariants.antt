use Rattle.std.proofs.Common.{◌≡◌, fold, length}
use Rattle.std.specs.List.{filter_map}
use Rattle.cx_lines.specs.Lines.{lines_of}
use Rattle.cx_shelf.specs.Closures.{included, led_to, with_file}
use Rattle.cx_shelf.specs.Shelves.{path_of}
use Rattle.cx_shelf.proofs.closures.follow.Given as goal

abbrev pub invariant-loop-line : goal.invariant-loop-line
invariant-loop-line l =
    fold with_file l.files.keys (filter_map (led_to l.shelf (path_of l.shelf l.file)) (lines_of l.pieces))
    ≡ fold with_file l.initial.files.keys (included l.shelf l.file)

abbrev pub decreases-loop-line : goal.decreases-loop-line
decreases-loop-line l = length l.pieces
