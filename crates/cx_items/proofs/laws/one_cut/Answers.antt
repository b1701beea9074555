use Rattle.cx_items.proofs.EndLaws.{cuts_one}
use Rattle.cx_items.proofs.laws.one_cut.Goals as goal

pub returns : goal.returns
returns c n parts starts others finished ended h k = cuts_one h k
