use Rattle.std.proofs.Common.{◌≡◌, take}
use Rattle.cx_macro.proofs.hiding.are_same.Given as goal

abbrev pub invariant-loop-index : goal.invariant-loop-index
invariant-loop-index l = take l.index l.names ≡ take l.index l.others
