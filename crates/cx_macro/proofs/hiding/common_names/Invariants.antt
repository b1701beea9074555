use Rattle.std.proofs.Common.{◌≡◌, ◌++◌, filter, drop}
use Rattle.cx_macro.specs.Hiding as sets
use Rattle.cx_macro.proofs.hiding.common_names.Given as goal

abbrev pub invariant-loop-name : goal.invariant-loop-name
invariant-loop-name l = l.both ++ filter (sets.is_among l.others) (drop l.name-index l.names) ≡ filter (sets.is_among l.others) l.names
