use Rattle.std.proofs.Common.{◌≡◌, map, take}
use Rattle.cx_finding.specs.Shapes.Keys as keys
use Rattle.cx_finding.proofs.key.place_keys.Given as goal

abbrev pub invariant-loop-place : goal.invariant-loop-place
invariant-loop-place l = l.keys.items ≡ map keys.place_key (take l.place-index l.places)
