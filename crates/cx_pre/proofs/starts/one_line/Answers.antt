use Rattle.cx_pre.proofs.StartLaws.{line_ends}
use Rattle.cx_pre.proofs.starts.one_line.Goals as goal

pub returns : goal.returns
returns c = line_ends c.loop-byte.line c.args.text.now c.loop-byte.rest.now c.in_default.ensures.cases c.loop-byte.invariant
