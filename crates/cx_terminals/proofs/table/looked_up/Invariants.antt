use Rattle.std.proofs.Common.{◌≡◌, drop, map}
use Rattle.cx_terminals.specs.Terminals.{looked_up}
use Rattle.cx_terminals.proofs.table.looked_up.Given as goal

abbrev pub invariant-loop-row : goal.invariant-loop-row
invariant-loop-row g l =
    looked_up l.text (map (λ row. (row.0.now, row.1)) l.table)
    ≡ looked_up l.text (map (λ row. (row.0.now, row.1)) (drop l.row-index l.table))
