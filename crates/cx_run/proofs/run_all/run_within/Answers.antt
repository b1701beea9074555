use Rattle.std.proofs.Common.{subst, sym}
use Rattle.cx_options.specs.Command.{command}
use Rattle.cx_run.specs.Run.{IsRun}
use Rattle.cx_run.specs.Written.{sinks}
use Rattle.cx_run.proofs.EndLaws.{nothing_run}
use Rattle.cx_run.proofs.RunLaws.{nothing_asked}
use Rattle.cx_run.proofs.run_all.run_within.Goals as goal

pub returns-in-Err-NoMemory : goal.returns-in-Err-NoMemory
returns-in-Err-NoMemory g c =
    let held = sinks (g.O.Sink.state c.args.out.now) (g.E.Sink.state c.args.err.now) in
    let files = g.F.Files.state c.args.files.now in
    subst (IsRun c.args.limits.now c.args.words.now files files held held) (sym c.nothing_done.ensures)
    (nothing_run c.args.limits.now c.args.words.now files files held
    (nothing_asked c.args.limits.now.asking (command c.args.words.now) files))
