use Rattle.std.proofs.Common.{◌≡◌, ◌++◌, drop}
use Rattle.cx_unit.specs.Closures.{read_faults}
use Rattle.cx_unit.proofs.closure_fault.read_faults.Given as goal

abbrev pub invariant-loop-path : goal.invariant-loop-path
invariant-loop-path l = l.findings ++ read_faults l.answers l.unit (drop l.path-index l.files) ≡ read_faults l.answers l.unit l.files
