use Rattle.std.proofs.Common.{ap, ◌∙◌}
use Rattle.cx_asking.specs.Wishes.{entries_among, entries_of}
use Rattle.cx_asking.proofs.answers.Answers.entries_among.Goals as goal

pub returns : goal.returns
unfolding entries_among
returns c = c.entries_of.ensures ∙ ap entries_of c.early.ensures
