use Rattle.std.proofs.Common.{◌≡◌, length}
use Rattle.cx_lex.specs.Shapes.Scanning.{rest_after}
use Rattle.cx_lex.proofs.cursor.Cursor.rest_after.Given as goal

abbrev pub invariant-loop-byte : goal.invariant-loop-byte
invariant-loop-byte l = rest_after l.left l.ahead ≡ rest_after l.word l.self

abbrev pub decreases-loop-byte : goal.decreases-loop-byte
decreases-loop-byte l = length l.left
