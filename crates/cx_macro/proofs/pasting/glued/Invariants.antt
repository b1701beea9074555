use Rattle.std.proofs.Common.{length}
use Rattle.cx_macro.specs.Shapes.Substitutes.{substitutes_of_code}
use Rattle.cx_macro.proofs.PastingLaws.{Gluing}
use Rattle.cx_macro.proofs.pasting.glued.Given as goal

abbrev pub invariant-loop-substitute : goal.invariant-loop-substitute
invariant-loop-substitute l = Gluing (substitutes_of_code l.initial.substitutes) l.front.items l.left.items (substitutes_of_code l.substitutes)

abbrev pub decreases-loop-substitute : goal.decreases-loop-substitute
decreases-loop-substitute l = length l.substitutes
