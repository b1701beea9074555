use Rattle.std.proofs.Common.{drop}
use Rattle.cx_pre.proofs.StartLaws.{ComesTo}
use Rattle.cx_pre.proofs.starts.define_all.Given as goal

abbrev pub invariant-loop-made : goal.invariant-loop-made
invariant-loop-made l = ComesTo l.macros (drop l.made-index l.defines) l.initial.macros l.defines
