use Rattle.cx_library.proofs.LaterLaws.{groups_below, groups_from}
use Rattle.cx_library.proofs.laws.groups_are_apart.Goals as goal

pub returns-clause-earlier : goal.returns-clause-earlier
returns-clause-earlier c = λ earlier later name. groups_below earlier later name

pub returns-clause-later : goal.returns-clause-later
returns-clause-later c = λ earlier later name. groups_from earlier later name
