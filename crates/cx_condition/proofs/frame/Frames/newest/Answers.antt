use Rattle.std.proofs.Common.{◌∙◌, ap, length, ◌-◌}
use Rattle.std.specs.Prelude.{slice_get}
use Rattle.cx_condition.specs.Shapes.Machine.{newest}
use Rattle.cx_condition.proofs.FrameLaws.{newest_is}
use Rattle.cx_condition.proofs.frame.Frames.newest.Goals as goal

pub returns : goal.returns
returns c =
    c.copied.ensures ∙ c.last.ensures.value ∙ ap (λ xs. slice_get xs (length xs - 1)) c.deref.ensures.value
    ∙ newest_is c.self.inside.frames.items ∙ ap newest c.self.view_is
