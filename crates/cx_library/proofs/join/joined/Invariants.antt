use Rattle.std.proofs.Common.{◌≡◌, take}
use Rattle.cx_table.specs.NameTable.{HasDistinctNames}
use Rattle.cx_library.specs.Joined.{joined, latest}
use Rattle.cx_library.proofs.join.joined.Given as goal

abbrev pub invariant-loop-index : goal.invariant-loop-index
invariant-loop-index g l = record {
  joined : l.table ≡ joined latest l.fn.earlier (take l.index l.later);
  distinct : HasDistinctNames l.table;
}
