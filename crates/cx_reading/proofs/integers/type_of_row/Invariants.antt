use Rattle.std.proofs.Common.{◌≡◌, length, map}
use Rattle.cx_reading.specs.Types.{type_of_row}
use Rattle.cx_reading.proofs.integers.type_of_row.Given as goal

abbrev pub invariant-loop-table : goal.invariant-loop-table
invariant-loop-table l =
    type_of_row l.keywords (map (λ r. (r.0.now, r.1)) l.table)
    ≡ type_of_row l.keywords (map (λ r. (r.0.now, r.1)) l.initial.table)

abbrev pub decreases-loop-table : goal.decreases-loop-table
decreases-loop-table l = length l.table
