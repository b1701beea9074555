use Rattle.cx_condition.proofs.TreeLaws.{bits_once, signed_range, unsigned_range}
use Rattle.cx_condition.proofs.laws.bits_are_of_their_range.Goals as goal

pub returns : goal.returns
returns c = record { unsigned = unsigned_range; signed = signed_range; once = bits_once }
