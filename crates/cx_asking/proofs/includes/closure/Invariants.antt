use Rattle.std.proofs.Common.{◌-◌, ◌^◌, [], ◌∷◌}
use Rattle.cx_asking.specs.Asking.{text_of}
use Rattle.cx_asking.specs.Includes.{included}
use Rattle.cx_asking.proofs.RoundLaws.{AreFound}
use Rattle.cx_asking.proofs.includes.closure.Given as goal

abbrev pub invariant-loop-file : goal.invariant-loop-file
invariant-loop-file l =
    AreFound (included (text_of l.shelf.files) l.shelf.folders l.answers) (l.unit ∷ []) l.followed l.found

abbrev pub decreases-loop-file : goal.decreases-loop-file
decreases-loop-file l = 2 ^ 64 - l.followed
