use Rattle.std.proofs.Common.{◌≡◌, List, ◌++◌, length, reverse}
use Rattle.cx_items.specs.declared.outline.Outermost.{Outermost}
use Rattle.cx_items.specs.Shapes.Ends.{ahead, entries_of, kinds}
use Rattle.cx_items.proofs.cuts.entries_of.Given as goal

abbrev pub invariant-loop-part : goal.invariant-loop-part
invariant-loop-part l = (done : List Outermost) × (l.fn.parts.items ≡ l.left.items ++ done)
    × (l.ahead ≡ ahead (kinds done)) × (reverse l.entries.items ≡ entries_of done)

abbrev pub decreases-loop-part : goal.decreases-loop-part
decreases-loop-part l = length l.left.items
