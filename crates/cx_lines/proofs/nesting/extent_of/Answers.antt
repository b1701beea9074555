use Rattle.std.proofs.Common.{◌≡◌, true, false, Some, ap, sym, ◌∙◌, subst, rules}
use Rattle.cx_lines.specs.declared.nesting.NestingFault.TheVariants.{Stray}
use Rattle.cx_lines.specs.Kinds.{kind_of}
use Rattle.cx_lines.specs.Lines.{lines_of}
use Rattle.cx_lines.specs.Nesting.{place_of}
use Rattle.cx_lines.specs.Shapes.Sections.{NestsTo, innermost, sections_after, stray_in, unclosed}
use Rattle.cx_lines.proofs.SectionLaws.{nests_ends, nests_next, nests_start, nests_stops}
use Rattle.cx_lines.proofs.nesting.extent_of.Goals as goal

pub loop-line-init : goal.loop-line-init
loop-line-init c =
    subst (NestsTo c.args.lines.now c.args.lines.now) (sym c.new-sections.ensures) (nests_start c.args.lines.now)

pub returns-then-is_stray : goal.returns-then-is_stray
returns-then-is_stray c =
    let stray : stray_in c.loop-line.sections (kind_of c.in-Some.line.now) ≡ true = search rules in
    nests_stops _ c.loop-line.rest.now _ _ c.loop-line.sections c.loop-line.invariant c.in-Some.ensures.lines stray
    ∙ ap (λ front. record { front = lines_of front; fault = Some (Stray (place_of c.in-Some.line.now)) })
    (sym (c.before-then-is_stray.ensures c.loop-line.invariant.cut))
    ∙ ap (λ at. record { front = lines_of c.before-then-is_stray.result.now; fault = Some (Stray at) }) (sym c.place_of.ensures)

pub loop-line-preserved : goal.loop-line-preserved
loop-line-preserved c =
    let stays : stray_in c.loop-line.sections (kind_of c.in-Some.line.now) ≡ false = search rules in
    let after : c.pass.new.self ≡ sections_after (kind_of c.in-Some.line.now) (place_of c.in-Some.line.now) c.loop-line.sections = search rules in
    subst (NestsTo c.args.lines.now c.in-Some.more.now) (sym after)
    (nests_next _ c.loop-line.rest.now _ _ c.loop-line.sections c.loop-line.invariant c.in-Some.ensures.whole
    c.in-Some.ensures.lines c.in-Some.ensures.next stays)

pub returns : goal.returns
returns c =
    nests_ends _ c.loop-line.rest.now c.loop-line.sections c.loop-line.invariant (search rules)
    ∙ ap (λ front. record { front = lines_of front; fault = unclosed (innermost c.loop-line.sections) })
    (sym (c.before-2.ensures c.loop-line.invariant.cut))
    ∙ ap (λ fault. record { front = lines_of c.before-2.result.now; fault = fault }) (sym c.unclosed.ensures)
