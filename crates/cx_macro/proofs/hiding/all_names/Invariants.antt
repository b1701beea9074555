use Rattle.std.proofs.Common.{◌≡◌, ◌++◌, filter, drop, not}
use Rattle.cx_macro.specs.Hiding as sets
use Rattle.cx_macro.proofs.hiding.all_names.Given as goal

abbrev pub invariant-loop-other : goal.invariant-loop-other
invariant-loop-other l = l.all ++ filter (λ name. not (sets.is_among l.names name)) (drop l.other-index l.others)
    ≡ l.names ++ filter (λ name. not (sets.is_among l.names name)) l.others
