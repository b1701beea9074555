use Rattle.std.proofs.Common.{◌≡◌, ◌++◌, length}
use Rattle.cx_macro.proofs.buffer.put_before.Given as goal

abbrev pub invariant-loop-segment : goal.invariant-loop-segment
invariant-loop-segment l = l.news.items ++ l.segments ≡ l.initial.news.items ++ l.initial.segments

abbrev pub decreases-loop-segment : goal.decreases-loop-segment
decreases-loop-segment l = length l.news.items
