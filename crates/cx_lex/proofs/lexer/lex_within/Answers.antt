use Rattle.cx_lex.specs.declared.lexer.LexFault.TheVariants.{UnclosedComment, TooLong}
use Rattle.cx_lex.proofs.AnswerLaws.{answers_fault, answers_ok, answers_only}
use Rattle.cx_lex.proofs.lexer.lex_within.Goals as goal

pub returns : goal.returns
returns c = record {
  ok = answers_ok c.args.file c.args.limit c.args.bytes.now c.elements.result c.elements.ensures;
  unclosed = λ at e. answers_fault c.args.file c.args.limit c.args.bytes.now c.elements.result (UnclosedComment at) c.elements.ensures e;
  long = λ at e. answers_fault c.args.file c.args.limit c.args.bytes.now c.elements.result (TooLong at) c.elements.ensures e;
  only = answers_only c.args.file c.args.limit c.args.bytes.now c.elements.result c.elements.ensures;
}
