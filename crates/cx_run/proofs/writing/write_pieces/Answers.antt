use Rattle.cx_run.specs.Written.{sinks}
use Rattle.cx_run.proofs.FaultLaws.{faultless_both, stop_after}
use Rattle.cx_run.proofs.TookLaws.{took_next, took_front}
use Rattle.cx_run.proofs.writing.write_pieces.Goals as goal

pub returns-in-Err-clause-front : goal.returns-in-Err-clause-front
returns-in-Err-clause-front g c =
    rw c.in-Err.ensures.goes
    (took_front
    (sinks (g.O.Sink.state c.args.out.now) (g.E.Sink.state c.args.err.now))
    (sinks (g.O.Sink.state c.loop-piece.out) (g.E.Sink.state c.loop-piece.err))
    (sinks (g.O.Sink.state c.write_piece.new.out) (g.E.Sink.state c.write_piece.new.err))
    c.args.pieces.now c.piece-item.result c.loop-piece.piece-index c.loop-piece-test.true c.piece-item.is
    c.loop-piece.invariant.took c.in-Err.ensures.front)

pub returns-in-Err-clause-faults : goal.returns-in-Err-clause-faults
returns-in-Err-clause-faults g c =
    stop_after _ _
    (sinks (g.O.Sink.state c.args.out.now) (g.E.Sink.state c.args.err.now))
    (sinks (g.O.Sink.state c.loop-piece.out) (g.E.Sink.state c.loop-piece.err))
    (sinks (g.O.Sink.state c.write_piece.new.out) (g.E.Sink.state c.write_piece.new.err))
    c.loop-piece.invariant.faultless c.in-Err.ensures.faults

pub loop-piece-preserved : goal.loop-piece-preserved
loop-piece-preserved g c = record {
  faultless = faultless_both
      (sinks (g.O.Sink.state c.args.out.now) (g.E.Sink.state c.args.err.now))
      (sinks (g.O.Sink.state c.loop-piece.out) (g.E.Sink.state c.loop-piece.err))
      (sinks (g.O.Sink.state c.write_piece.new.out) (g.E.Sink.state c.write_piece.new.err))
      c.loop-piece.invariant.faultless c.in_default.ensures.faultless;
  took = took_next
      (sinks (g.O.Sink.state c.args.out.now) (g.E.Sink.state c.args.err.now))
      (sinks (g.O.Sink.state c.loop-piece.out) (g.E.Sink.state c.loop-piece.err))
      (sinks (g.O.Sink.state c.write_piece.new.out) (g.E.Sink.state c.write_piece.new.err))
      c.args.pieces.now c.piece-item.result c.loop-piece.piece-index c.loop-piece-test.true c.piece-item.is
      c.loop-piece.invariant.took c.in_default.ensures.whole;
}
