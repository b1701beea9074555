use Rattle.cx_lex.proofs.Outcomes.{some_outcome_of}
use Rattle.cx_lex.proofs.lexer.some_outcome.Goals as goal

pub returns : goal.returns
returns c = some_outcome_of
