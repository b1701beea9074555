use Rattle.std.proofs.Common.{◌≡◌, ◌++◌, length}
use Rattle.cx_pre.specs.Starts.{one_line}
use Rattle.cx_pre.proofs.starts.one_line.Given as goal

abbrev pub invariant-loop-byte : goal.invariant-loop-byte
invariant-loop-byte l = l.line ++ one_line l.rest ≡ one_line l.fn.text

abbrev pub decreases-loop-byte : goal.decreases-loop-byte
decreases-loop-byte l = length l.rest
