use Rattle.cx_lex.proofs.Outcomes.{one_outcome_of}
use Rattle.cx_lex.proofs.lexer.one_outcome.Goals as goal

pub returns : goal.returns
returns c = one_outcome_of
