-- What the two sinks hold at the end.
use Rattle.std.specs.Prelude.{◌≡◌, ℕ, List, [], ◌∷◌, ◌++◌, take, ◌⊎◌}
use Rattle.cx_base.specs.Faults.{Rose}
use Rattle.cx_base.specs.Outside.{Appends, SinkState}
use Rattle.cx_base.specs.declared.answers.SeenEntry.{SeenEntry}
use Rattle.cx_run.specs.declared.limits.RunLimits.{RunLimits}
use Rattle.cx_run.specs.declared.report.Cause.{Cause}
use Rattle.cx_run.specs.declared.report.Cause.TheVariants.{WriteFault, NoMemory}
use Rattle.cx_run.specs.declared.report.SinkName.{SinkName}
use Rattle.cx_run.specs.declared.report.SinkName.TheVariants.{Out, Err}
use Rattle.cx_run.specs.declared.report.ReportPiece.{ReportPiece}
use Rattle.cx_run.specs.declared.report.Report.{Report}
use Rattle.cx_run.specs.Reports.{IsReport}

-- the two sinks that a report is written to
pub record Sinks : Type 0 where
  pub out : SinkState
  pub err : SinkState

abbrev pub sinks : SinkState → SinkState → Sinks
sinks out err = record { out = out; err = err }

-- a text, where it is for this sink
abbrev pub text_for : SinkName → SinkName → List ℕ → List ℕ
text_for Out Out bytes = bytes
text_for Out Err bytes = []
text_for Err Out bytes = []
text_for Err Err bytes = bytes

-- the bytes of the pieces that go to a sink
abbrev pub bytes_to : SinkName → List ReportPiece → List ℕ
bytes_to sink [] = []
bytes_to sink (piece ∷ pieces) = text_for sink piece.sink piece.bytes ++ bytes_to sink pieces

-- each sink took the bytes of its pieces, in order, after what it held
pub record Took (before after : Sinks) (pieces : List ReportPiece) : Type 0 where
  pub out : Appends before.out after.out (bytes_to Out pieces)
  pub err : Appends before.err after.err (bytes_to Err pieces)

-- a front of the pieces: some of them whole, and of the next one, which goes to this sink, its
-- first bytes
pub record IsFront (pieces front : List ReportPiece) (sink : SinkName) : Type 0 where
  pub whole : List ReportPiece
  pub next : ReportPiece
  pub after : List ReportPiece
  pub count : ℕ
  pub splits : pieces ≡ whole ++ next ∷ after
  pub joins : front ≡ whole ++ record next { bytes = take count next.bytes } ∷ []
  pub goes : next.sink ≡ sink

-- the report of this cause and this status is written whole
pub record IsWhole (limits : RunLimits) (words : List (List ℕ)) (seen : List SeenEntry)
    (before after : Sinks) (cause : Cause) (status : ℕ) : Type 0 where
  pub report : Report
  pub reports : IsReport limits words seen report
  pub because : report.cause ≡ cause
  pub ends : report.status ≡ status
  pub took : Took before after report.pieces

-- a front of a report is written: it ends in a piece for this sink
pub record IsInterrupted (limits : RunLimits) (words : List (List ℕ)) (seen : List SeenEntry)
    (before after : Sinks) (sink : SinkName) : Type 0 where
  pub report : Report
  pub reports : IsReport limits words seen report
  pub front : List ReportPiece
  pub begins : IsFront report.pieces front sink
  pub took : Took before after front

-- What is written, and the status, by the cause: after a fault of a sink a front that ends there;
-- where memory ran out nothing, or such a front; else the report whole.
abbrev pub IsWritten
    : RunLimits → List (List ℕ) → List SeenEntry → Sinks → Sinks → Cause → ℕ → Type 0
IsWritten limits words seen before after (WriteFault sink) status =
    (status ≡ 3) × IsInterrupted limits words seen before after sink
IsWritten limits words seen before after NoMemory status =
    (status ≡ 4) × (Took before after []
    ⊎ ((sink : SinkName) × IsInterrupted limits words seen before after sink))
IsWritten limits words seen before after cause status =
    IsWhole limits words seen before after cause status

-- both counts of faults are as they were
abbrev pub IsFaultless : Sinks → Sinks → Type 0
IsFaultless before after =
    (after.out.faults ≡ before.out.faults) × (after.err.faults ≡ before.err.faults)

-- the count of this sink rose, and the other one is as it was
abbrev pub FailedAlone : SinkName → Sinks → Sinks → Type 0
FailedAlone Out before after =
    Rose before.out.faults after.out.faults × (after.err.faults ≡ before.err.faults)
FailedAlone Err before after =
    (after.out.faults ≡ before.out.faults) × Rose before.err.faults after.err.faults

-- the counts of the sinks, by the cause
abbrev pub HasFaultsOf : Cause → Sinks → Sinks → Type 0
HasFaultsOf (WriteFault sink) before after = FailedAlone sink before after
HasFaultsOf cause before after = IsFaultless before after
