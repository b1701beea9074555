use Rattle.std.proofs.Common.{take}
use Rattle.cx_macro.proofs.DefinableLaws.{AreNames}
use Rattle.cx_macro.proofs.lookup.table_of.Given as goal

abbrev pub invariant-loop-name : goal.invariant-loop-name
invariant-loop-name l = AreNames l.table (take l.name-index l.names)
