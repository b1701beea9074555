use Rattle.std.proofs.Common.{take}
use Rattle.cx_macro.proofs.DefinableLaws.{AreNames}
use Rattle.cx_macro.proofs.definable.distinct_names.Given as goal

abbrev pub invariant-loop-name : goal.invariant-loop-name
invariant-loop-name l = AreNames l.set (take l.name-index l.names)
