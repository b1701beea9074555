use Rattle.cx_library.proofs.MergeLaws.{merged_assoc}
use Rattle.cx_library.proofs.laws.merging_is_associative.Goals as goal

pub returns : goal.returns
returns c = merged_assoc
