use Rattle.cx_directive.proofs.AnswerLaws.{nothing_asked}
use Rattle.cx_directive.proofs.laws.nothing_is_asked.Goals as goal

pub returns : goal.returns
returns c = nothing_asked
