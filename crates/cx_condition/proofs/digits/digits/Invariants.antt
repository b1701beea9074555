use Rattle.std.proofs.Common.{◌≡◌, length}
use Rattle.cx_condition.specs.Shapes.Reading.{digits_read}
use Rattle.cx_condition.proofs.digits.digits.Given as goal

abbrev pub invariant-loop-byte : goal.invariant-loop-byte
invariant-loop-byte l = digits_read l.base l.value l.rest ≡ digits_read l.base 0 l.text

abbrev pub decreases-loop-byte : goal.decreases-loop-byte
decreases-loop-byte l = length l.rest
