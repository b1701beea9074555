use Rattle.std.proofs.Common.{◌≡◌, map, take}
use Rattle.cx_run.proofs.checked.paths_of.Given as goal

abbrev pub invariant-loop-entry : goal.invariant-loop-entry
invariant-loop-entry l = l.paths ≡ map (λ e. e.path) (take l.entry-index l.seen)
