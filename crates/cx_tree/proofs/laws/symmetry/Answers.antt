use Rattle.cx_tree.proofs.CommonTypeLaws.{usual_symmetric}
use Rattle.cx_tree.proofs.laws.symmetry.Goals as goal

pub returns : goal.returns
returns c = usual_symmetric
