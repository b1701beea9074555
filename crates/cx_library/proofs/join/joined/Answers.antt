use Rattle.std.proofs.Common.{sym, arith}
use Rattle.cx_library.specs.Joined.{latest}
use Rattle.cx_library.proofs.JoinLaws.{joined-none, latest_step}
use Rattle.cx_library.proofs.join.joined.Goals as goal

pub loop-index-init : goal.loop-index-init
loop-index-init g c = record { joined = sym (joined-none latest c.args.earlier); distinct = c.requires }

pub loop-index-preserved : goal.loop-index-preserved
loop-index-preserved g c = record {
  joined = latest_step c.args.earlier c.args.later.now _ _ c.loop-index.index c.requires c.len-index-end.ensures.distinct (omega arith) c.loop-index.invariant.joined
      c.in_ok-put_at.ensures.ok;
  distinct = c.in_ok-put_at.ensures.distinct;
}
