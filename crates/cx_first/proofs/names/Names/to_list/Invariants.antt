use Rattle.std.proofs.Common.{◌≡◌, ◌≤◌, take, length}
use Rattle.cx_table.specs.NameTable.{names_of}
use Rattle.cx_first.proofs.names.Names.to_list.Given as goal

abbrev pub invariant-loop-index : goal.invariant-loop-index
invariant-loop-index l = l.list ≡ take l.index l.self
