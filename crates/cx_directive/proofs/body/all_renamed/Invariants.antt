use Rattle.std.proofs.Common.{◌≡◌, ◌++◌, drop, map}
use Rattle.cx_directive.specs.Defines.{renamed}
use Rattle.cx_directive.specs.Operands.{tokens_of}
use Rattle.cx_directive.proofs.body.all_renamed.Given as goal

abbrev pub invariant-loop-piece : goal.invariant-loop-piece
invariant-loop-piece l = l.made.items ++ map (renamed l.name) (tokens_of (drop l.piece-index l.body)) ≡ map (renamed l.name) (tokens_of l.body)
