use Rattle.cx_pre.proofs.SectionLaws.{closed_guard}
use Rattle.cx_pre.proofs.laws.closed_guards_give_nothing.Goals as goal

pub returns : goal.returns
returns c = λ shelf depth file s guard end group name e k n g x d. closed_guard shelf depth file s guard end group name e k n g x d
