-- What the sinks hold and count where a writing stopped: joined to `IsWritten` and `HasFaultsOf` of
-- Written by `tell`.
use Rattle.std.specs.Prelude.{ℕ, List, [], ◌∷◌, take}
use Rattle.cx_base.specs.declared.errors.Lost.{Lost}
use Rattle.cx_base.specs.declared.errors.Lost.TheVariants.{Failed, NoMemory}
use Rattle.cx_run.specs.declared.report.ReportPiece.{ReportPiece}
use Rattle.cx_run.specs.declared.report.SinkName.{SinkName}
use Rattle.cx_run.specs.Written.{FailedAlone, IsFaultless, IsFront, Sinks, Took}

-- the first bytes of a piece were taken
abbrev pub TookFirst : Sinks → Sinks → ReportPiece → Type 0
TookFirst before after piece =
    (n : ℕ) × Took before after (record piece { bytes = take n piece.bytes } ∷ [])

-- a front of the pieces was taken, which ends in a piece for this sink
abbrev pub TookFront : Sinks → Sinks → List ReportPiece → SinkName → Type 0
TookFront before after pieces sink =
    (front : List ReportPiece) × IsFront pieces front sink × Took before after front

-- a writing stopped at this sink, for this reason
abbrev pub HasFaultsOfStop : SinkName → Lost → Sinks → Sinks → Type 0
HasFaultsOfStop sink Failed before after = FailedAlone sink before after
HasFaultsOfStop sink NoMemory before after = IsFaultless before after
