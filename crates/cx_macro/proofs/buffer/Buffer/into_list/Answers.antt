use Rattle.std.proofs.Common.{ap, ◌∙◌}
use Rattle.cx_macro.specs.Shapes.Segments.{Spread}
use Rattle.cx_macro.proofs.SegmentLaws.{none_ahead}
use Rattle.cx_macro.proofs.buffer.Buffer.into_list.Goals as goal

pub returns-clause-partners : goal.returns-clause-partners
returns-clause-partners c =
    λ m a.
    c.into_list.ensures.partners
    (none_ahead c.self.inside.segments c.self.inside.level (ap (λ (s : Spread). s.more) c.self.view_is ∙ m) (ap (λ (s : Spread). s.ahead) c.self.view_is ∙ a))
