use Rattle.std.proofs.Common.{ℕ, List, arith}
use Rattle.cx_library.specs.declared.pod.Pod.{Pod}
use Rattle.cx_library.proofs.ListLaws.{pushed}
use Rattle.cx_library.proofs.table.names_in.Goals as goal

pub loop-index-preserved : goal.loop-index-preserved
loop-index-preserved c =
    pushed (λ (e : List ℕ × Pod). e.0) c.args.table.now c.loop-index.index _ _ (omega arith) c.loop-index.invariant c.in_ok-push_name.ensures
