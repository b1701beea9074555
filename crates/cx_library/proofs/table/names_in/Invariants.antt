use Rattle.std.proofs.Common.{◌≡◌, take}
use Rattle.cx_table.specs.NameTable.{names_of}
use Rattle.cx_library.proofs.table.names_in.Given as goal

abbrev pub invariant-loop-index : goal.invariant-loop-index
invariant-loop-index l = l.names ≡ names_of (take l.index l.table)
