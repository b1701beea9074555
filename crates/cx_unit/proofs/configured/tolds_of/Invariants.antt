use Rattle.std.proofs.Common.{take}
use Rattle.std.specs.List.{AllZip}
use Rattle.cx_unit.specs.Told.{IsTold}
use Rattle.cx_unit.proofs.configured.tolds_of.Given as goal

abbrev pub invariant-loop-config : goal.invariant-loop-config
invariant-loop-config l = AllZip (IsTold l.shelf l.unit) (take l.config-index l.configs) l.tolds
