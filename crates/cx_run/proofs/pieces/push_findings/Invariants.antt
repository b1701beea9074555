use Rattle.std.proofs.Common.{◌≡◌, ◌++◌, drop}
use Rattle.cx_run.specs.Reports.{finding_pieces}
use Rattle.cx_run.proofs.pieces.push_findings.Given as goal

abbrev pub invariant-loop-finding : goal.invariant-loop-finding
invariant-loop-finding l =
    l.pieces ++ finding_pieces l.options l.files (drop l.finding-index l.findings)
    ≡ l.initial.pieces ++ finding_pieces l.options l.files l.findings
