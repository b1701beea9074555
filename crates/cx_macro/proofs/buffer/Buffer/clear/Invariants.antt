use Rattle.std.proofs.Common.{◌≡◌, length}
use Rattle.cx_macro.proofs.buffer.Buffer.clear.Given as goal

abbrev pub invariant-loop-token : goal.invariant-loop-token
invariant-loop-token l = (l.self.done ≡ l.initial.self.done) × (l.self.more ≡ l.initial.self.more)

abbrev pub decreases-loop-token : goal.decreases-loop-token
decreases-loop-token l = length l.self.ahead
