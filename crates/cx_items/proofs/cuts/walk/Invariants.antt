use Rattle.std.proofs.Common.{ℕ, List, ◌++◌, Bool, length, reverse}
use Rattle.cx_items.specs.Shapes.Ends.{Walks}
use Rattle.cx_items.proofs.cuts.walk.Given as goal

abbrev pub invariant-loop-entry : goal.invariant-loop-entry
invariant-loop-entry l = (more : List ℕ) (finished : Bool) → Walks (reverse l.left.items) more finished
    → Walks (reverse l.fn.entries.items) (l.starts ++ more) finished

abbrev pub decreases-loop-entry : goal.decreases-loop-entry
decreases-loop-entry l = length l.left.items
