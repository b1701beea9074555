use Rattle.cx_library.specs.Joined.{latest}
use Rattle.cx_library.specs.Library.{merged}
use Rattle.cx_library.proofs.LaterLaws.{function_stays, same_value}
use Rattle.cx_library.proofs.laws.what_is_not_named_stays.Goals as goal

pub returns-clause-functions : goal.returns-clause-functions
returns-clause-functions c = λ earlier later name. function_stays earlier later name

pub returns-clause-defines : goal.returns-clause-defines
unfolding merged
returns-clause-defines c = λ earlier later name. same_value latest earlier.defines later.defines name

pub returns-clause-pods : goal.returns-clause-pods
unfolding merged
returns-clause-pods c = λ earlier later name. same_value latest earlier.pods later.pods name
