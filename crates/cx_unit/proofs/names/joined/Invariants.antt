use Rattle.std.proofs.Common.{◌≡◌, ◌++◌, codes, drop}
use Rattle.std.specs.List.{flat_map}
use Rattle.cx_unit.specs.Names.{joined}
use Rattle.cx_unit.proofs.names.joined.Given as goal

abbrev pub invariant-loop-part : goal.invariant-loop-part
invariant-loop-part l = l.text ++ flat_map (λ other. codes ";" ++ other) (drop l.part-index l.others) ≡ joined l.parts
