use Rattle.std.proofs.Common.{◌+◌, ◌*◌, take}
use Rattle.cx_asking.specs.Shapes.Asks.{Asks}
use Rattle.cx_asking.proofs.WalkLaws.{all_of, of_member}
use Rattle.cx_asking.proofs.walk.+walk.Given as goal

abbrev pub decreases-ask_subfolder : goal.decreases-ask_subfolder
decreases-ask_subfolder g l = 3 * l.depth

abbrev pub decreases-ask_member : goal.decreases-ask_member
decreases-ask_member g l = 3 * l.depth + 1

abbrev pub decreases-ask_members : goal.decreases-ask_members
decreases-ask_members g l = 3 * l.depth + 2

abbrev pub invariant-ask_members-loop-member : goal.invariant-ask_members-loop-member
invariant-ask_members-loop-member g l =
    Asks l.limits (all_of (of_member l.limits l.depth) (take l.member-index l.members))
    l.initial.asked l.asked (g.F.Files.state l.initial.files) (g.F.Files.state l.files)
