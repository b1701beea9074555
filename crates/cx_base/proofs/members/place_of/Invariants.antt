use Rattle.std.proofs.Common.{◌≡◌, ◌++◌, take, drop}
use Rattle.cx_base.specs.Shapes.Members.{added}
use Rattle.cx_base.proofs.members.place_of.Given as goal

abbrev pub invariant-loop-at : goal.invariant-loop-at
invariant-loop-at l = added l.entry l.entries ≡ take l.at l.entries ++ added l.entry (drop l.at l.entries)
