use Rattle.cx_library.proofs.LaterLaws.{earlier_groups, earlier_says}
use Rattle.cx_library.proofs.laws.the_other_part_stays.Goals as goal

pub returns-clause-described : goal.returns-clause-described
returns-clause-described c = λ earlier later name. earlier_says earlier later name

pub returns-clause-grouped : goal.returns-clause-grouped
returns-clause-grouped c = λ earlier later name. earlier_groups earlier later name
