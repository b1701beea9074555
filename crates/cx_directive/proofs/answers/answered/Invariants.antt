use Rattle.std.proofs.Common.{◌≡◌, ◌++◌, length}
use Rattle.cx_directive.specs.Answers.{answered}
use Rattle.cx_directive.specs.Operands.{tokens_of}
use Rattle.cx_directive.proofs.answers.answered.Given as goal

abbrev pub invariant-loop-piece : goal.invariant-loop-piece
invariant-loop-piece l =
    l.made.items ++ answered l.fn.macros (tokens_of l.left) ≡ answered l.fn.macros (tokens_of l.fn.operands)

abbrev pub decreases-loop-piece : goal.decreases-loop-piece
decreases-loop-piece l = length l.left
