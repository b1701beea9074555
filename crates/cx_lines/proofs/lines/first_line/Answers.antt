use Rattle.std.proofs.Common.{◌≡◌, ◌+◌, ◌∷◌, subst, sym, take}
use Rattle.std.specs.Prelude.{drop}
use Rattle.cx_lines.specs.Lines.{lines_of}
use Rattle.cx_lines.specs.Shapes.Cuts.{BeginsLine}
use Rattle.cx_lines.proofs.LineLaws.{behind_begins, first_line_of}
use Rattle.cx_lines.proofs.lines.first_line.Goals as goal

pub returns-clause-lines : goal.returns-clause-lines
returns-clause-lines c =
    subst (λ l. lines_of c.args.pieces.now ≡ take (c.rest_of_line-length.result + 1) c.args.pieces.now ∷ lines_of l) (sym c.split_at.ensures.back)
    (first_line_of c.args.pieces.now c.in_ok-rest.field-0-0.now c.in_ok-rest.rest.now c.rest_of_line-length.result
    c.in_ok-rest.ensures.cases.0 c.rest_of_line-length.ensures.length)

pub returns-clause-next : goal.returns-clause-next
returns-clause-next c =
    let rest = c.in_ok-rest.rest.now in
    subst BeginsLine (sym c.split_at.ensures.back)
    (subst (λ n. BeginsLine (drop n rest)) (sym c.rest_of_line-length.ensures.length) (behind_begins rest))
