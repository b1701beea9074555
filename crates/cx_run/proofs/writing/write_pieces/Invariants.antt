use Rattle.std.proofs.Common.{take}
use Rattle.cx_run.specs.Written.{IsFaultless, Took, sinks}
use Rattle.cx_run.proofs.writing.write_pieces.Given as goal

abbrev pub invariant-loop-piece : goal.invariant-loop-piece
invariant-loop-piece g l = record {
  faultless : IsFaultless (sinks (g.O.Sink.state l.initial.out) (g.E.Sink.state l.initial.err)) (sinks (g.O.Sink.state l.out) (g.E.Sink.state l.err));
  took : Took (sinks (g.O.Sink.state l.initial.out) (g.E.Sink.state l.initial.err)) (sinks (g.O.Sink.state l.out) (g.E.Sink.state l.err)) (take l.piece-index l.pieces);
}
