use Rattle.std.proofs.Common.{◌≡◌, true, false, ap, sym, ◌∙◌, arith, rules, tests}
use Rattle.std.specs.Prelude.{◌==◌, ◌&&◌}
use Rattle.cx_lines.specs.Kinds.{ends_group, kind_of}
use Rattle.cx_lines.specs.Lines.{lines_of}
use Rattle.cx_lines.specs.Nesting.{from_part}
use Rattle.cx_lines.proofs.CountLaws.{from_part_here, from_part_next, from_part_nothing}
use Rattle.cx_lines.proofs.nesting.from_part.Goals as goal
use Rattle.cx_lines.proofs.nesting.from_part.Goals.{else-ends_group-via-then-ends_group+else-nested-eq0, else-ends_group-via-else-ends_group}

pub returns-then-nested-eq0-clause-lines : goal.returns-then-nested-eq0-clause-lines
returns-then-nested-eq0-clause-lines c =
    let here : (ends_group (kind_of c.in-Some.line.now) && (c.loop-line.nested == 0)) ≡ true = search (tests, rules) in
    c.loop-line.invariant.0 ∙ from_part_here _ _ _ _ c.in-Some.ensures.lines here

pub loop-line-preserved : goal.loop-line-preserved
loop-line-preserved c =
    let on : (ends_group (kind_of c.in-Some.line.now) && (c.loop-line.nested == 0)) ≡ false =
    elim c.else-ends_group.branch [ else-ends_group-via-then-ends_group+else-nested-eq0 w ↦ search (tests, rules) | else-ends_group-via-else-ends_group w ↦ search (tests, rules) ] in (
      c.loop-line.invariant.0 ∙ from_part_next _ _ _ _ c.in-Some.ensures.lines on
          ∙ ap (λ n. from_part n (lines_of c.in-Some.more.now)) (sym (search rules)),
      omega (arith, c.in-Some.ensures.shorter),
    )

pub returns-clause-lines : goal.returns-clause-lines
returns-clause-lines c = c.loop-line.invariant.0 ∙ from_part_nothing _ _ (search rules)
