use Rattle.std.proofs.Common.{◌≡◌, drop}
use Rattle.cx_base.specs.Memory.{are_distinct}
use Rattle.cx_base.proofs.memory_files.are_distinct.Given as goal

abbrev pub invariant-loop-at : goal.invariant-loop-at
invariant-loop-at l = are_distinct l.stored ≡ are_distinct (drop l.at l.stored)
