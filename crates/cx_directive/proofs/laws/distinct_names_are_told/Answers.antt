use Rattle.cx_directive.proofs.DistinctLaws.{distinct_exactly}
use Rattle.cx_directive.proofs.laws.distinct_names_are_told.Goals as goal

pub returns : goal.returns
returns c = distinct_exactly
