-- What is found in a first text.
use Rattle.std.proofs.Common.{◌≡◌, ℕ, Some}
use Rattle.cx_base.specs.declared.finding.Finding.{Finding}
use Rattle.cx_first.specs.declared.evaluation.Undefined.{Undefined}
use Rattle.cx_first.specs.declared.nodes.Node.{Node}
use Rattle.cx_first.specs.Nodes.{node_of}
use Rattle.cx_first.specs.Runs.{IsStuck}
use Rattle.cx_first.specs.Tree.{Source}
use Rattle.cx_unit.specs.First.{IsFindingAt, finding_of}

pub finding_at : (source : Source) (statement node : ℕ) (cause : Undefined) (told : Node) (found : Finding)
    → IsStuck source statement node cause → node_of source statement node ≡ Some told → found ≡ finding_of cause told
    → IsFindingAt source statement node found
finding_at source statement node cause told found s n f = record { cause = cause; stuck = s; told = told; stands = n; is = f }
