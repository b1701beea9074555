use Rattle.cx_tree.proofs.ValueLaws.{converts_by_multiple}
use Rattle.cx_tree.proofs.laws.conversion.Goals as goal

pub returns-clause-by_multiple : goal.returns-clause-by_multiple
returns-clause-by_multiple c = converts_by_multiple
