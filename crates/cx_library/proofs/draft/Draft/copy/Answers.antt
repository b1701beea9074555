use Rattle.std.proofs.Common.{◌∙◌, ap}
use Rattle.cx_library.specs.Library.{merged}
use Rattle.cx_library.proofs.MergeLaws.{empty-merged}
use Rattle.cx_library.proofs.draft.Draft.copy.Goals as goal

pub returns : goal.returns
returns c = c.in_ok-draft.ensures ∙ (ap (λ e. merged e c.args.self.now) c.new-draft.ensures ∙ empty-merged c.args.self.now)
