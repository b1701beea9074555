use Rattle.std.proofs.Common.{◌≡◌, false, ap, sym, ◌∙◌, rules}
use Rattle.cx_lines.specs.Kinds.{is_text, kind_of}
use Rattle.cx_lines.specs.Lines.{lines_of}
use Rattle.cx_lines.proofs.TextLaws.{after_at_end, front_at_end, moved_at_end, text_at_directive, text_at_end, text_next, text_start}
use Rattle.cx_lines.proofs.lines.front_text.Goals as goal

pub loop-line-init : goal.loop-line-init
loop-line-init c = text_start c.args.lines.now

pub returns-then-not-is_text-clause-front : goal.returns-then-not-is_text-clause-front
returns-then-not-is_text-clause-front c =
    let directive : is_text (kind_of c.in-Some.line.now) ≡ false = search rules in
    front_at_end _ _ c.loop-line.invariant (text_at_directive _ _ _ c.in-Some.ensures.lines directive)
    ∙ ap lines_of (sym (c.before-then-not-is_text.ensures c.loop-line.invariant.cut))

pub returns-then-not-is_text-clause-after : goal.returns-then-not-is_text-clause-after
returns-then-not-is_text-clause-after c =
    let directive : is_text (kind_of c.in-Some.line.now) ≡ false = search rules in
    after_at_end _ _ c.loop-line.invariant (text_at_directive _ _ _ c.in-Some.ensures.lines directive)

pub returns-then-not-is_text-clause-shorter : goal.returns-then-not-is_text-clause-shorter
returns-then-not-is_text-clause-shorter c =
    let directive : is_text (kind_of c.in-Some.line.now) ≡ false = search rules in
    moved_at_end _ _ c.loop-line.invariant (text_at_directive _ _ _ c.in-Some.ensures.lines directive)

pub loop-line-preserved : goal.loop-line-preserved
loop-line-preserved c =
    text_next _ c.loop-line.rest.now _ _ c.loop-line.invariant c.in-Some.ensures.whole c.in-Some.ensures.lines
    c.in-Some.ensures.next c.in-Some.ensures.shorter (search rules)

pub returns-clause-front : goal.returns-clause-front
returns-clause-front c =
    front_at_end _ _ c.loop-line.invariant (text_at_end _ (search rules))
    ∙ ap lines_of (sym (c.before-2.ensures c.loop-line.invariant.cut))

pub returns-clause-after : goal.returns-clause-after
returns-clause-after c = after_at_end _ _ c.loop-line.invariant (text_at_end _ (search rules))

pub returns-clause-shorter : goal.returns-clause-shorter
returns-clause-shorter c = moved_at_end _ _ c.loop-line.invariant (text_at_end _ (search rules))
