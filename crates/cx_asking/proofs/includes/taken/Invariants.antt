use Rattle.std.proofs.Common.{◌≡◌, drop}
use Rattle.std.specs.List.{find}
use Rattle.cx_asking.specs.Includes.{is_taken}
use Rattle.cx_asking.proofs.includes.taken.Given as goal

abbrev pub invariant-loop-path : goal.invariant-loop-path
invariant-loop-path l = find (is_taken l.answers) (drop l.path-index l.paths) ≡ find (is_taken l.answers) l.paths
