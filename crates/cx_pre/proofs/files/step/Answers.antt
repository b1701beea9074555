use Rattle.cx_lines.specs.Lines.{lines_of}
use Rattle.cx_pre.proofs.StepLaws.{alone_stops}
use Rattle.cx_pre.proofs.files.step.Goals as goal

pub returns-in-Err-clause-meaning : goal.returns-in-Err-clause-meaning
returns-in-Err-clause-meaning c =
    alone_stops c.args.context.now.shelf.now c.args.file c.args.stage.now c.obey.new.self c.in-Err.stop c.args.line.now (lines_of c.args.rest.now)
    (lines_of c.args.lines.now) c.requires.lines c.in-Err.ensures
