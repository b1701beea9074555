use Rattle.cx_lex.proofs.Outcomes.{elements_of}
use Rattle.cx_lex.proofs.lexer.elements_are_the_text.Goals as goal

pub returns : goal.returns
returns c = elements_of
