use Rattle.cx_pre.proofs.MarkLaws.{once_is_marked as law}
use Rattle.cx_pre.proofs.laws.once_is_marked.Goals as goal

pub returns : goal.returns
returns c = law
