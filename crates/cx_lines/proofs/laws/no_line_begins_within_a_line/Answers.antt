use Rattle.cx_lines.proofs.LineLaws.{lines_are}
use Rattle.cx_lines.proofs.laws.no_line_begins_within_a_line.Goals as goal

pub returns : goal.returns
returns c = lines_are
