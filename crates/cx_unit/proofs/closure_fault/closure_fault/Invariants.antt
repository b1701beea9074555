use Rattle.std.proofs.Common.{◌≡◌, drop}
use Rattle.cx_unit.specs.Closures.{closure_fault, nothing}
use Rattle.cx_unit.proofs.closure_fault.closure_fault.Given as goal

abbrev pub invariant-loop-path : goal.invariant-loop-path
invariant-loop-path l =
    closure_fault l.limits l.answers l.faults l.unit l.before (drop l.path-index l.files)
    ≡ closure_fault l.limits l.answers l.faults l.unit nothing l.files
