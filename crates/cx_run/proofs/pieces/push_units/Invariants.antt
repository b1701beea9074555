use Rattle.std.proofs.Common.{◌≡◌, ◌++◌, drop}
use Rattle.cx_run.specs.Reports.{all_findings, unit_pieces}
use Rattle.cx_run.proofs.pieces.push_units.Given as goal

abbrev pub invariant-loop-unit : goal.invariant-loop-unit
invariant-loop-unit l =
    (l.pieces ++ unit_pieces l.options l.files l.told (drop l.unit-index l.units)
    ≡ l.initial.pieces ++ unit_pieces l.options l.files l.fn.told l.units)
    × (all_findings l.told (drop l.unit-index l.units) ≡ all_findings l.fn.told l.units)
