use Rattle.std.proofs.Common.{◌≡◌, ◌≤◌, ◌-◌, length, take}
use Rattle.cx_base.specs.Outside.{Appends}
use Rattle.cx_base.proofs.write_all.write_whole.Given as goal

abbrev pub invariant-loop-done : goal.invariant-loop-done
invariant-loop-done g l = record {
  within : l.done ≤ length l.bytes;
  faults : (g.S.Sink.state l.sink).faults ≡ (g.S.Sink.state l.initial.sink).faults;
  appended : Appends (g.S.Sink.state l.initial.sink) (g.S.Sink.state l.sink) (take l.done l.bytes);
}

abbrev pub decreases-loop-done : goal.decreases-loop-done
decreases-loop-done g l = length l.bytes - l.done
