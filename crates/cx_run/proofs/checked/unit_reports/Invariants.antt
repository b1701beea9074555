use Rattle.std.proofs.Common.{take}
use Rattle.cx_run.specs.Shapes.Told.{AreTold}
use Rattle.cx_run.proofs.checked.unit_reports.Given as goal

abbrev pub invariant-loop-path : goal.invariant-loop-path
invariant-loop-path l = AreTold l.teller (take l.path-index l.units) l.reports
