use Rattle.std.proofs.Common.{◌≡◌, ◌++◌, length}
use Rattle.cx_macro.specs.Shapes.Frames.{AreFrames}
use Rattle.cx_macro.proofs.buffer.put_all.Given as goal

abbrev pub invariant-loop-token : goal.invariant-loop-token
invariant-loop-token l =
    (AreFrames l.initial.frames l.initial.level.ahead → AreFrames l.frames l.level.ahead) × (l.level.done ≡ l.initial.level.done)
    × (l.news.items ++ l.level.ahead ≡ l.initial.news.items ++ l.initial.level.ahead)

abbrev pub decreases-loop-token : goal.decreases-loop-token
decreases-loop-token l = length l.news.items
