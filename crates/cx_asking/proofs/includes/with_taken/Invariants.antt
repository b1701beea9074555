use Rattle.std.proofs.Common.{◌≡◌, bytes_eq, drop}
use Rattle.indexmap.specs.IndexSet.{insert_all}
use Rattle.cx_asking.proofs.IncludeLaws.{taken_of}
use Rattle.cx_asking.proofs.includes.with_taken.Given as goal

abbrev pub invariant-loop-paths : goal.invariant-loop-paths
invariant-loop-paths l =
    insert_all bytes_eq l.found (taken_of l.answers (drop l.paths-index l.tried))
    ≡ insert_all bytes_eq l.fn.found (taken_of l.answers l.tried)
