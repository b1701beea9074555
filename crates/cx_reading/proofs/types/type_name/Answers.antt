use Rattle.cx_reading.proofs.AnswerLaws.{found_of_reads, only_of_reads}
use Rattle.cx_reading.proofs.TypeLaws.{type_law}
use Rattle.cx_reading.proofs.types.type_name.Goals as goal

pub returns-clause-found : goal.returns-clause-found
returns-clause-found c = found_of_reads type_law _ _ _ c.parts_of_type.ensures

pub returns-clause-only : goal.returns-clause-only
returns-clause-only c = only_of_reads type_law _ _ _ c.parts_of_type.ensures
