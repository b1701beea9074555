use Rattle.std.proofs.Common.{◌≡◌, ◌≤◌, length}
use Rattle.cx_first.specs.Shapes.Digits.{digits_from}
use Rattle.cx_first.specs.Numbers.{greatest}
use Rattle.cx_first.proofs.number.digits_value.Given as goal

abbrev pub invariant-loop-byte : goal.invariant-loop-byte
invariant-loop-byte l = (digits_from l.value l.rest ≡ digits_from 0 l.text) × (l.value ≤ greatest)

abbrev pub decreases-loop-byte : goal.decreases-loop-byte
decreases-loop-byte l = length l.rest
