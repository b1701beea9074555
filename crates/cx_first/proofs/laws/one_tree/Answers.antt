use Rattle.cx_first.proofs.SameLaws.{text_same}
use Rattle.cx_first.proofs.laws.one_tree.Goals as goal

pub returns : goal.returns
returns c = text_same 256
