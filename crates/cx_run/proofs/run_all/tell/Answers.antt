use Rattle.std.proofs.Common.{IfOk, subst}
use Rattle.cx_run.specs.Reports.{IsReport}
use Rattle.cx_run.specs.Written.{Took, sinks}
use Rattle.cx_run.proofs.WrittenLaws.{whole_faults, whole_written}
use Rattle.cx_run.proofs.run_all.tell.Goals as goal

pub returns-in-Ok-write_pieces-clause-written : goal.returns-in-Ok-write_pieces-clause-written
returns-in-Ok-write_pieces-clause-written g c =
    whole_written c.args.limits.now c.args.words.now c.args.seen.now
    (sinks (g.O.Sink.state c.args.out.now) (g.E.Sink.state c.args.err.now))
    (sinks (g.O.Sink.state c.write_pieces.new.out) (g.E.Sink.state c.write_pieces.new.err))
    c.in-Ok.report
    (subst (λ r. IfOk r (IsReport c.args.limits.now c.args.words.now c.args.seen.now)) c.in-Ok.is c.requires)
    (subst (Took (sinks (g.O.Sink.state c.args.out.now) (g.E.Sink.state c.args.err.now))
    (sinks (g.O.Sink.state c.write_pieces.new.out) (g.E.Sink.state c.write_pieces.new.err)))
    c.as_slice.ensures c.in-Ok-write_pieces.ensures.whole)
    c.in-Ok-write_pieces.ensures.faultless

pub returns-in-Ok-write_pieces-clause-faults : goal.returns-in-Ok-write_pieces-clause-faults
returns-in-Ok-write_pieces-clause-faults g c =
    whole_faults c.args.limits.now c.args.words.now c.args.seen.now
    (sinks (g.O.Sink.state c.args.out.now) (g.E.Sink.state c.args.err.now))
    (sinks (g.O.Sink.state c.write_pieces.new.out) (g.E.Sink.state c.write_pieces.new.err))
    c.in-Ok.report
    (subst (λ r. IfOk r (IsReport c.args.limits.now c.args.words.now c.args.seen.now)) c.in-Ok.is c.requires)
    (subst (Took (sinks (g.O.Sink.state c.args.out.now) (g.E.Sink.state c.args.err.now))
    (sinks (g.O.Sink.state c.write_pieces.new.out) (g.E.Sink.state c.write_pieces.new.err)))
    c.as_slice.ensures c.in-Ok-write_pieces.ensures.whole)
    c.in-Ok-write_pieces.ensures.faultless
