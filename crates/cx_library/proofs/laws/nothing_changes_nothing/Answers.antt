use Rattle.cx_library.proofs.MergeLaws.{empty-merged, merged-empty}
use Rattle.cx_library.proofs.laws.nothing_changes_nothing.Goals as goal

pub returns-clause-behind : goal.returns-clause-behind
returns-clause-behind c = merged-empty

pub returns-clause-before : goal.returns-clause-before
returns-clause-before c = empty-merged
