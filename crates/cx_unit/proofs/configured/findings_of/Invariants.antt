use Rattle.std.proofs.Common.{◌≡◌, drop}
use Rattle.std.specs.List.{flat_map}
use Rattle.indexmap.specs.IndexSet.{insert_all}
use Rattle.cx_finding.specs.Distinct.{distinct, same}
use Rattle.cx_unit.specs.Told.{findings_in}
use Rattle.cx_unit.proofs.configured.findings_of.Given as goal

abbrev pub invariant-loop-told : goal.invariant-loop-told
invariant-loop-told l =
    insert_all same l.findings (flat_map findings_in (drop l.told-index l.tolds)) ≡ distinct (flat_map findings_in l.tolds)
