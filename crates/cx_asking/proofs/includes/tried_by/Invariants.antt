use Rattle.std.proofs.Common.{◌≡◌, map, take}
use Rattle.cx_asking.specs.Includes.{tried}
use Rattle.cx_asking.specs.Shapes.Steps.{lists_of}
use Rattle.cx_asking.proofs.includes.tried_by.Given as goal

abbrev pub invariant-loop-include : goal.invariant-loop-include
invariant-loop-include l = lists_of l.all.items ≡ map (tried l.folders l.file) (take l.include-index l.include-items)
