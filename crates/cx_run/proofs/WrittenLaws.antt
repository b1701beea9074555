-- What is written of a report, by how the writing of its pieces ended.
use Rattle.std.proofs.Common.{ℕ, List, inl, inr, refl}
use Rattle.cx_base.specs.declared.answers.SeenEntry.{SeenEntry}
use Rattle.cx_options.specs.declared.answer.Options.{Options}
use Rattle.cx_run.specs.declared.limits.RunLimits.{RunLimits}
use Rattle.cx_run.specs.declared.report.Cause.TheVariants.{NoMemory, WriteFault}
use Rattle.cx_run.specs.declared.report.Report.{Report}
use Rattle.cx_run.specs.declared.report.SinkName.{SinkName}
use Rattle.cx_run.specs.Reports.{IsChecked, IsOptionsReport, IsReport, is_bad_word, is_checked, is_done, is_empty, is_foreign, is_read, is_refused_list}
use Rattle.cx_run.specs.Shapes.Stops.{TookFront}
use Rattle.cx_run.specs.Written.{HasFaultsOf, IsFaultless, IsInterrupted, IsWhole, IsWritten, Sinks, Took}
use Rattle.cx_run.proofs.RunLaws.{took_none}

module _ (limits : RunLimits) (words : List (List ℕ)) (seen : List SeenEntry) (before after : Sinks) where
  -- what holds of a report that was written whole
  abbrev IsTold : Report → Type 0
  IsTold report = IsWritten limits words seen before after report.cause report.status × HasFaultsOf report.cause before after

  whole : (report : Report) → IsReport limits words seen report → Took before after report.pieces
      → IsWhole limits words seen before after report.cause report.status
  whole report r t = record { report = report; reports = r; because = refl; ends = refl; took = t }

  checked_told : (options : Options) (report : Report) → IsChecked limits options seen report → IsReport limits words seen report
      → Took before after report.pieces → IsFaultless before after → IsTold report
  checked_told options _ (is_foreign g s f) r t n = (whole _ r t, n)
  checked_told options _ (is_done g units s all) r t n = (whole _ r t, n)

  options_told : (options : Options) (report : Report) → IsOptionsReport limits options seen report → IsReport limits words seen report
      → Took before after report.pieces → IsFaultless before after → IsTold report
  options_told options _ (is_refused_list f e) r t n = (whole _ r t, n)
  options_told options _ (is_empty e u) r t n = (whole _ r t, n)
  options_told options _ (is_checked report e u c) r t n = checked_told options report c r t n

  told : (report : Report) → IsReport limits words seen report → Took before after report.pieces → IsFaultless before after → IsTold report
  told _ (is_bad_word number kind word e w) t n = (whole _ (is_bad_word number kind word e w) t, n)
  told _ (is_read options report e o) t n = options_told options report o (is_read options report e o) t n

  pub whole_written : (report : Report) → IsReport limits words seen report → Took before after report.pieces → IsFaultless before after
      → IsWritten limits words seen before after report.cause report.status
  whole_written report r t n = (told report r t n).0

  pub whole_faults : (report : Report) → IsReport limits words seen report → Took before after report.pieces → IsFaultless before after
      → HasFaultsOf report.cause before after
  whole_faults report r t n = (told report r t n).1

  -- a front of a report was written
  pub interrupted : (report : Report) (sink : SinkName) → IsReport limits words seen report → TookFront before after report.pieces sink
      → IsInterrupted limits words seen before after sink
  interrupted report sink r t = record { report = report; reports = r; front = t.0; begins = t.1; took = t.2 }

  pub failed_written : (report : Report) (sink : SinkName) → IsReport limits words seen report → TookFront before after report.pieces sink
      → IsWritten limits words seen before after (WriteFault sink) 3
  failed_written report sink r t = (refl, interrupted report sink r t)

  pub lost_written : (report : Report) (sink : SinkName) → IsReport limits words seen report → TookFront before after report.pieces sink
      → IsWritten limits words seen before after NoMemory 4
  lost_written report sink r t = (refl, inr (sink, interrupted report sink r t))

pub nothing_written : (limits : RunLimits) (words : List (List ℕ)) (seen : List SeenEntry) (s : Sinks) → IsWritten limits words seen s s NoMemory 4
nothing_written limits words seen s = (refl, inl (took_none s))
