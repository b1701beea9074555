use Rattle.std.proofs.Common.{sym, arith}
use Rattle.cx_library.specs.Known.{over}
use Rattle.cx_library.proofs.JoinLaws.{joined-none}
use Rattle.cx_library.proofs.KnownLaws.{all_taken, known_step}
use Rattle.cx_library.proofs.join.joined_functions.Goals as goal

pub loop-index-init : goal.loop-index-init
loop-index-init c = record { joined = sym (joined-none over c.args.earlier); distinct = c.requires }

pub loop-index-preserved : goal.loop-index-preserved
loop-index-preserved c = record {
  joined = known_step c.args.earlier c.args.later.now c.args.groups _ _ c.loop-index.index c.requires c.len-index-end.ensures.distinct (omega arith) c.loop-index.invariant.joined
      c.in_ok-put_known_at.ensures.ok;
  distinct = c.in_ok-put_known_at.ensures.distinct;
}

pub returns-clause-ok : goal.returns-clause-ok
returns-clause-ok c = rw (← all_taken c.args.groups c.args.later.now c.loop-index.index (omega arith)) c.loop-index.invariant.joined
