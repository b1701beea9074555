use Rattle.std.proofs.Common.{◌≡◌, ◌+◌, ◌≤◌, drop}
use Rattle.cx_reading.specs.Types.{storage_count}
use Rattle.cx_reading.proofs.types.storage_count.Given as goal

abbrev pub invariant-loop-found : goal.invariant-loop-found
invariant-loop-found l = record {
  counted : l.count + storage_count (drop l.found-index l.specifiers) ≡ storage_count l.specifiers;
  bound : l.count ≤ l.found-index;
}
