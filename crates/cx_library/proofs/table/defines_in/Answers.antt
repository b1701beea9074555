use Rattle.std.proofs.Common.{arith}
use Rattle.cx_library.specs.Library.{define_of}
use Rattle.cx_library.proofs.ListLaws.{pushed}
use Rattle.cx_library.proofs.table.defines_in.Goals as goal

pub loop-index-preserved : goal.loop-index-preserved
loop-index-preserved c = pushed define_of c.args.table.now c.loop-index.index _ _ (omega arith) c.loop-index.invariant c.in_ok-push_define.ensures
