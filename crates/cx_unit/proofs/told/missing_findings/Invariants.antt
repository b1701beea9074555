use Rattle.std.proofs.Common.{◌≡◌, map, take}
use Rattle.cx_finding.specs.Kinds.{missing_include}
use Rattle.cx_unit.proofs.told.missing_findings.Given as goal

abbrev pub invariant-loop-name : goal.invariant-loop-name
invariant-loop-name l = l.findings ≡ map (λ n. missing_include n.name n.quoted n.at) (take l.name-index l.names)
