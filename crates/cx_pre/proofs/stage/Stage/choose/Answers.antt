use Rattle.cx_lines.specs.Lines.{lines_of}
use Rattle.cx_pre.proofs.ChoiceLaws.{choice_ends}
use Rattle.cx_pre.proofs.stage.Stage.choose.Goals as goal

pub returns-in_default-clause-choice : goal.returns-in_default-clause-choice
returns-in_default-clause-choice c =
    choice_ends c.args.self.now c.loop-part.self c.decide.new.self c.args.line.now c.loop-part.asking.now (lines_of c.args.rest.now) (lines_of c.loop-part.behind.now)
    c.from_part.result.now c.in_ok-decide.field-0 c.loop-part.invariant.0 c.in_ok-decide.ensures c.if-not-branch.true c.from_part.ensures.lines
    c.in_default.ensures.lines
