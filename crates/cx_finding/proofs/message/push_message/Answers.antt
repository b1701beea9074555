use Rattle.std.proofs.lemmas.List.{append-nil}
use Rattle.cx_finding.specs.Texts.{message}
use Rattle.cx_finding.proofs.message.push_message.Goals as goal

pub returns-in-UninitVar : goal.returns-in-UninitVar
unfolding message
returns-in-UninitVar c = rw c.in-UninitVar.is (rw append-nil at c.push_about.ensures)

pub returns-in-ZeroDiv : goal.returns-in-ZeroDiv
unfolding message
returns-in-ZeroDiv c = rw c.in-ZeroDiv.is c.push_all.ensures.ok

pub returns-in-SyntaxError : goal.returns-in-SyntaxError
unfolding message
returns-in-SyntaxError c = rw c.in-SyntaxError.is (rw append-nil at c.push_about-in-SyntaxError.ensures)

pub returns-in-PreprocessorErrorDirective : goal.returns-in-PreprocessorErrorDirective
unfolding message
returns-in-PreprocessorErrorDirective c = rw c.in-PreprocessorErrorDirective.is (rw append-nil at c.push_about-in-PreprocessorErrorDirective.ensures)

pub returns-in-ReadFault : goal.returns-in-ReadFault
unfolding message
returns-in-ReadFault c = rw c.in-ReadFault.is (rw append-nil at c.push_about-in-ReadFault.ensures)
