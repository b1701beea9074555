use Rattle.std.proofs.Common.{length}
use Rattle.cx_lex.specs.Lines.{file_characters}
use Rattle.cx_lex.proofs.Onward.{Onward}
use Rattle.cx_lex.proofs.lexer.elements.Given as goal

abbrev pub invariant-elements : goal.invariant-elements
invariant-elements l = Onward (file_characters l.fn.file l.fn.bytes) l.cursor l.fn.limit l.before l.lexed.pieces l.lexed.comments

abbrev pub decreases-elements : goal.decreases-elements
decreases-elements l = length l.cursor
