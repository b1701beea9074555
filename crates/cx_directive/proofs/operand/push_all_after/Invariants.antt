use Rattle.std.proofs.Common.{◌≡◌, ◌++◌, drop}
use Rattle.cx_directive.specs.Operands.{spelled_on, tokens_of}
use Rattle.cx_directive.proofs.operand.push_all_after.Given as goal

abbrev pub invariant-loop-piece : goal.invariant-loop-piece
invariant-loop-piece l = l.text ++ spelled_on (tokens_of (drop l.piece-index l.pieces)) ≡ l.initial.text ++ spelled_on (tokens_of l.pieces)
