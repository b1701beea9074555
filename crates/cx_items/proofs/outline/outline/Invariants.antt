use Rattle.std.proofs.Common.{◌≡◌, ◌++◌, ◌≤◌, drop}
use Rattle.cx_items.specs.Shapes.Outlines.{outline}
use Rattle.cx_items.proofs.outline.outline.Given as goal

abbrev pub invariant-loop-index : goal.invariant-loop-index
invariant-loop-index l =
    (l.parts.items ++ outline l.depth l.index (drop l.index l.lexemes) ≡ outline 0 0 l.lexemes)
    × (l.depth ≤ l.index)
