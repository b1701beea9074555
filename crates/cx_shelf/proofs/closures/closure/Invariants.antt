use Rattle.std.proofs.Common.{◌-◌, length}
use Rattle.cx_shelf.specs.Closures.{closure_of}
use Rattle.cx_shelf.proofs.ReachLaws.{AreFound}
use Rattle.cx_shelf.proofs.closures.closure.Given as goal

abbrev pub invariant-loop-file : goal.invariant-loop-file
invariant-loop-file l = AreFound l.shelf l.unit l.followed l.files.keys

abbrev pub decreases-loop-file : goal.decreases-loop-file
decreases-loop-file l = length (closure_of l.shelf l.unit) - l.followed
