use Rattle.std.proofs.Common.{◌≡◌, ◌++◌, false, length}
use Rattle.cx_condition.specs.Parts.{parts_behind}
use Rattle.cx_condition.proofs.part.parts_of.Given as goal

abbrev pub invariant-loop-token : goal.invariant-loop-token
invariant-loop-token l = l.parts.items ++ parts_behind l.prefixed l.rest ≡ parts_behind false l.tokens

abbrev pub decreases-loop-token : goal.decreases-loop-token
decreases-loop-token l = length l.rest
