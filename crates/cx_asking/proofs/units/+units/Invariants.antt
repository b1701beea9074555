use Rattle.std.proofs.Common.{◌≡◌, ◌+◌, ◌*◌, take}
use Rattle.std.specs.List.{flat_map}
use Rattle.cx_asking.specs.Shapes.Steps.{member_wishes, with_units}
use Rattle.cx_asking.proofs.units.+units.Given as goal

abbrev pub decreases-add_subfolder : goal.decreases-add_subfolder
decreases-add_subfolder l = 4 * l.depth

abbrev pub decreases-add_member : goal.decreases-add_member
decreases-add_member l = 4 * l.depth + 1

abbrev pub decreases-add_members : goal.decreases-add_members
decreases-add_members l = 4 * l.depth + 2

abbrev pub invariant-add_members-loop-member : goal.invariant-add_members-loop-member
invariant-add_members-loop-member l =
    l.units ≡ with_units l.most l.answers l.fn.units
    (flat_map (member_wishes l.depth l.most l.answers) (take l.member-index l.members))
