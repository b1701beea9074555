use Rattle.std.proofs.Common.{ap, sym, ◌∙◌}
use Rattle.cx_macro.specs.Shapes.Segments.{Spread}
use Rattle.cx_macro.proofs.SegmentLaws as laws
use Rattle.cx_macro.proofs.buffer.Buffer.advance.Goals as goal

pub returns-clause-next : goal.returns-clause-next
returns-clause-next c = λ ahead more e.
    laws.next_segment _ ahead _ more
    (sym (laws.advanced c.self.inside.segments c.pop.new.self c.in-Some.segment c.self.inside.level c.pop_first.new.level c.in_ok-_end._end c.in-Some.ensures (laws.ended _ c.if-not-segment.false)
    (ap (λ (s : Spread). s.ahead) c.self.view_is ∙ c.requires) c.in_ok-_end.ensures.token)
    ∙ (ap (λ (s : Spread). s.more) c.self.view_is ∙ e))
