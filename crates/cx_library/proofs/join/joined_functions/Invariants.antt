use Rattle.std.proofs.Common.{◌≡◌, take}
use Rattle.cx_table.specs.NameTable.{HasDistinctNames}
use Rattle.cx_library.specs.Joined.{joined}
use Rattle.cx_library.specs.Known.{over}
use Rattle.cx_library.specs.Library.{all_renumbered}
use Rattle.cx_library.proofs.join.joined_functions.Given as goal

abbrev pub invariant-loop-index : goal.invariant-loop-index
invariant-loop-index l = record {
  joined : l.functions ≡ joined over l.fn.earlier (take l.index (all_renumbered l.groups l.later));
  distinct : HasDistinctNames l.functions;
}
