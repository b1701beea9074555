use Rattle.cx_directive.proofs.AnswerLaws.{bare_answered, bracketed_answered}
use Rattle.cx_directive.proofs.laws.each_question_is_answered.Goals as goal

pub returns : goal.returns
returns c = record { bare = bare_answered; bracketed = bracketed_answered }
