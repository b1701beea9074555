use Rattle.std.proofs.Common.{◌≡◌, drop}
use Rattle.indexmap.specs.IndexSet.{insert_all}
use Rattle.cx_finding.specs.Distinct.{same}
use Rattle.cx_finding.proofs.distinct.Findings.with_all.Given as goal

abbrev pub invariant-loop-finding : goal.invariant-loop-finding
invariant-loop-finding l = insert_all same l.all (drop l.finding-index l.findings) ≡ insert_all same l.fn.self l.findings
