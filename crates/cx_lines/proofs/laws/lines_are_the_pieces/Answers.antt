use Rattle.cx_lines.proofs.LineLaws.{lines_joined}
use Rattle.cx_lines.proofs.laws.lines_are_the_pieces.Goals as goal

pub returns : goal.returns
returns c = lines_joined
