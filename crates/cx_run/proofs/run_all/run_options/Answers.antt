use Rattle.std.proofs.Common.{IfOk, subst, sym}
use Rattle.cx_options.specs.Command.{command}
use Rattle.cx_run.specs.Reports.{IsReport, is_read}
use Rattle.cx_run.specs.Run.{IsRun}
use Rattle.cx_run.specs.Written.{IsWritten, sinks}
use Rattle.cx_run.proofs.CheckedLaws.{on_ok}
use Rattle.cx_run.proofs.EndLaws.{asked_alone, nothing_run, read_run}
use Rattle.cx_run.proofs.RunLaws.{nothing_asked}
use Rattle.cx_run.proofs.run_all.run_options.Goals as goal

pub returns-in_default : goal.returns-in_default
returns-in_default g c =
    let held = sinks (g.O.Sink.state c.args.out.now) (g.E.Sink.state c.args.err.now) in
    let files = g.F.Files.state c.args.files.now in
    subst (IsRun c.args.limits.now c.args.words.now files files held held) (sym c.nothing_done.ensures)
    (nothing_run c.args.limits.now c.args.words.now files files held
    (nothing_asked c.args.limits.now.asking (command c.args.words.now) files))

pub returns-in_default-ask : goal.returns-in_default-ask
returns-in_default-ask g c =
    let held = sinks (g.O.Sink.state c.args.out.now) (g.E.Sink.state c.args.err.now) in
    let before = g.F.Files.state c.args.files.now in
    let after = g.F.Files.state c.ask.new.files in
    subst (IsRun c.args.limits.now c.args.words.now before after held held) (sym c.nothing_done-in_default-ask.ensures)
    (nothing_run c.args.limits.now c.args.words.now before after held
    (asked_alone c.args.limits.now c.args.words.now c.args.options.now c.requires.read before after c.in_default-ask.ensures.reads))

pub tell-cause-requires : goal.tell-cause-requires
tell-cause-requires g c =
    subst (λ seen. IfOk c.report_of-report.result (IsReport c.args.limits.now c.args.words.now seen)) (sym c.as_slice.ensures)
    (on_ok c.report_of-report.result (λ report o. is_read c.args.options.now report c.requires.read o) c.report_of-report.ensures)

pub returns : goal.returns
returns g c =
    let before = sinks (g.O.Sink.state c.args.out.now) (g.E.Sink.state c.args.err.now) in
    let after = sinks (g.O.Sink.state c.tell-cause.new.out) (g.E.Sink.state c.tell-cause.new.err) in
    let told = c.tell-cause.result in
    let seen = c.in-Ok-ask.gathering.answers in
    subst (λ s. IsRun c.args.limits.now c.args.words.now (g.F.Files.state c.args.files.now) (g.F.Files.state c.ask.new.files) before after
    (record { status = told.status; cause = told.cause; seen = s })) (sym c.into_seen.ensures)
    (read_run c.args.limits.now c.args.words.now c.args.options.now c.requires.read
    (g.F.Files.state c.args.files.now) (g.F.Files.state c.ask.new.files) seen c.in-Ok-ask.gathering.shelf.files before after
    told.cause told.status c.in-Ok-ask.ensures.asked c.in-Ok-ask.ensures.answers
    (subst (λ s. IsWritten c.args.limits.now c.args.words.now s before after told.cause told.status) c.as_slice.ensures c.tell-cause.ensures.written)
    c.tell-cause.ensures.faults)
