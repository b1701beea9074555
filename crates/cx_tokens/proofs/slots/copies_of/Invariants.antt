use Rattle.std.proofs.Common.{◌≡◌, take}
use Rattle.cx_tokens.proofs.slots.copies_of.Given as goal

abbrev pub invariant-loop-slot : goal.invariant-loop-slot
invariant-loop-slot l = l.made.items ≡ take l.slot-index l.slots
