use Rattle.std.proofs.Common.{◌≡◌, length}
use Rattle.cx_lex.proofs.Scans.{ReadsOn}
use Rattle.cx_lex.proofs.scan.read_on.Given as goal

abbrev pub invariant-loop-next : goal.invariant-loop-next
invariant-loop-next l = ReadsOn l.text l.end l.ahead l.fn.so_far l.fn.begin l.fn.cursor × (l.cursor ≡ l.ahead)

abbrev pub decreases-loop-next : goal.decreases-loop-next
decreases-loop-next l = length l.ahead
