use Rattle.std.proofs.Common.{ap, length, ◌∙◌}
use Rattle.cx_asking.specs.Wishes.{folders_in}
use Rattle.cx_asking.proofs.IndexLaws.{folders_counted}
use Rattle.cx_asking.proofs.answers.Answers.folder_count.Goals as goal

pub returns : goal.returns
returns c =
    ap length (c.as_slice.ensures.value ∙ c.self.invariant.folders) ∙ folders_counted 0 c.self.inside.seen
    ∙ ap (λ s. length (folders_in s)) c.self.view_is
