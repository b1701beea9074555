use Rattle.std.proofs.Common.{◌≡◌, [], take}
use Rattle.std.specs.List.{flat_map}
use Rattle.cx_asking.specs.Shapes.Steps.{with_units}
use Rattle.cx_asking.specs.Wishes.{given_wishes}
use Rattle.cx_asking.proofs.units.units_of.Given as goal

abbrev pub invariant-loop-path : goal.invariant-loop-path
invariant-loop-path l =
    l.units ≡ with_units l.limits.folders l.answers []
    (flat_map (given_wishes l.limits l.answers) (take l.path-index l.paths))
