use Rattle.std.proofs.Common.{◌≡◌, ◌++◌, drop}
use Rattle.cx_directive.specs.Operands.{tokens_of}
use Rattle.cx_directive.proofs.operand.token_copies.Given as goal

abbrev pub invariant-loop-piece : goal.invariant-loop-piece
invariant-loop-piece l = l.made.items ++ tokens_of (drop l.piece-index l.pieces) ≡ tokens_of l.pieces
