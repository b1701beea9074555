use Rattle.std.proofs.Common.{◌≡◌, ◌++◌, drop}
use Rattle.cx_unit.specs.Names.{parts_of}
use Rattle.cx_unit.proofs.names.parts_of.Given as goal

abbrev pub invariant-loop-name : goal.invariant-loop-name
invariant-loop-name l = l.parts ++ drop l.name-index l.names ≡ parts_of l.options l.names
