use Rattle.std.proofs.Common.{◌∙◌, sym}
use Rattle.cx_lines.proofs.LineLaws.{found_nowhere}
use Rattle.cx_lines.proofs.lines.rest_of_line.Goals as goal

pub returns-in-None-clause-length : goal.returns-in-None-clause-length
returns-in-None-clause-length c =
    found_nowhere (λ p. p.first_on_line) c.args.pieces.now (sym c.next_line.ensures ∙ c.in-None.is)
