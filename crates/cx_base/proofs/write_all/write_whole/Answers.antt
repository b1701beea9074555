use Rattle.std.proofs.Common.{◌∙◌}
use Rattle.cx_base.proofs.AppendLaws.{took_next}
use Rattle.cx_base.proofs.write_all.write_whole.Goals as goal

pub loop-done-preserved : goal.loop-done-preserved
loop-done-preserved g c =
    let step = c.in_ok-done.ensures in
    let next = took_next (g.S.Sink.state c.args.sink.now) (g.S.Sink.state c.loop-done.sink) (g.S.Sink.state c.write.new.self)
    c.args.bytes.now c.loop-done.done c.in_ok-done.field-0 c.loop-done.invariant.within step.takes.0 c.loop-done.invariant.appended step.appends in
    record {
      within = next.0;
      faults = step.cause ∙ c.loop-done.invariant.faults;
      appended = next.1;
    }
