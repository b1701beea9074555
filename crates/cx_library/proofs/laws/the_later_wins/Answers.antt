use Rattle.cx_library.specs.Library.{merged}
use Rattle.cx_library.proofs.LaterLaws.{later_groups, later_says, later_value}
use Rattle.cx_library.proofs.laws.the_later_wins.Goals as goal

pub returns-clause-described : goal.returns-clause-described
returns-clause-described c = λ earlier later name. later_says earlier later name

pub returns-clause-grouped : goal.returns-clause-grouped
returns-clause-grouped c = λ earlier later name. later_groups earlier later name

pub returns-clause-defined : goal.returns-clause-defined
unfolding merged
returns-clause-defined c = λ earlier later name text. later_value earlier.defines later.defines name text

pub returns-clause-typed : goal.returns-clause-typed
unfolding merged
returns-clause-typed c = λ earlier later name pod. later_value earlier.pods later.pods name pod
