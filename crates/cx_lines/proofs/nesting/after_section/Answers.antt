use Rattle.std.proofs.Common.{◌≡◌, true, false, ap, sym, ◌∙◌, arith, rules, tests}
use Rattle.std.specs.Prelude.{◌==◌, ◌&&◌}
use Rattle.cx_lines.specs.Kinds.{closes, kind_of}
use Rattle.cx_lines.specs.Lines.{lines_of}
use Rattle.cx_lines.specs.Nesting.{after_section}
use Rattle.cx_lines.proofs.CountLaws.{after_section_here, after_section_next, after_section_nothing}
use Rattle.cx_lines.proofs.nesting.after_section.Goals as goal
use Rattle.cx_lines.proofs.nesting.after_section.Goals.{else-closes-via-then-closes+else-nested-eq0, else-closes-via-else-closes}

pub returns-then-nested-eq0-clause-lines : goal.returns-then-nested-eq0-clause-lines
returns-then-nested-eq0-clause-lines c =
    let here : (closes (kind_of c.in-Some.line.now) && (c.loop-line.nested == 0)) ≡ true = search (tests, rules) in
    c.loop-line.invariant.0 ∙ after_section_here _ _ _ _ c.in-Some.ensures.lines here

pub loop-line-preserved : goal.loop-line-preserved
loop-line-preserved c =
    let on : (closes (kind_of c.in-Some.line.now) && (c.loop-line.nested == 0)) ≡ false =
    elim c.else-closes.branch [ else-closes-via-then-closes+else-nested-eq0 w ↦ search (tests, rules) | else-closes-via-else-closes w ↦ search (tests, rules) ] in (
      c.loop-line.invariant.0 ∙ after_section_next _ _ _ _ c.in-Some.ensures.lines on
          ∙ ap (λ n. after_section n (lines_of c.in-Some.more.now)) (sym (search rules)),
      omega (arith, c.in-Some.ensures.shorter),
    )

pub returns-clause-lines : goal.returns-clause-lines
returns-clause-lines c = c.loop-line.invariant.0 ∙ after_section_nothing _ _ (search rules)
