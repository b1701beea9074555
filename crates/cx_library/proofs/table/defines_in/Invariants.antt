use Rattle.std.proofs.Common.{◌≡◌, map, take}
use Rattle.cx_library.specs.Library.{define_of}
use Rattle.cx_library.proofs.table.defines_in.Given as goal

abbrev pub invariant-loop-index : goal.invariant-loop-index
invariant-loop-index l = l.defines ≡ map define_of (take l.index l.table)
