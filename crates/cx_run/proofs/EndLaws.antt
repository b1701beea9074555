-- How a run ended, by how far it came.
use Rattle.std.proofs.Common.{◌≡◌, ℕ, List, [], Ok, Err, inl, inr, refl, sym, subst}
use Rattle.cx_base.specs.Outside.{FilesState}
use Rattle.cx_base.specs.declared.answers.SeenEntry.{SeenEntry}
use Rattle.cx_options.specs.declared.answer.Options.{Options}
use Rattle.cx_options.specs.Command.{Refused, command}
use Rattle.cx_shelf.specs.declared.shelf.Shelved.{Shelved}
use Rattle.cx_asking.specs.Asked.{AreAnswers, IsAskedOnly}
use Rattle.cx_asking.specs.Asking.{IsWholeAsking}
use Rattle.cx_run.specs.declared.limits.RunLimits.{RunLimits}
use Rattle.cx_run.specs.declared.report.Cause.{Cause}
use Rattle.cx_run.specs.declared.report.Cause.TheVariants.{NoMemory}
use Rattle.cx_run.specs.Asking.{AreItsAnswers, IsAllAsked, IsAskedAlone}
use Rattle.cx_run.specs.Run.{IsRun}
use Rattle.cx_run.specs.Written.{HasFaultsOf, IsWritten, Sinks}
use Rattle.cx_run.proofs.RunLaws.{all_sound, answered_none, took_none, whole_reads}
use Rattle.cx_run.proofs.WrittenLaws.{nothing_written}

module _ (limits : RunLimits) (words : List (List ℕ)) where
  -- memory ran out before anything was told
  pub nothing_run : (before after : FilesState) (s : Sinks) → IsAskedAlone limits.asking (command words) before after
      → IsRun limits words before after s s (record { status = 4; cause = NoMemory; seen = [] })
  nothing_run before after s reads = record {
    asked = λ e. absurd (e refl);
    answers = λ e. absurd (e refl);
    reads = reads;
    written = nothing_written limits words [] s;
    nothing = inr (took_none s);
    faults = (refl, refl);
    sound = all_sound limits words [];
  }

  module _ (options : Options) (read : command words ≡ Ok options) (before after : FilesState) where
    -- the files were asked for a front of what the options want
    pub asked_alone : IsAskedOnly limits.asking options before after → IsAskedAlone limits.asking (command words) before after
    asked_alone only = subst (λ c. IsAskedAlone limits.asking c before after) (sym read) only

    -- all was asked, and its report was told
    pub read_run : (seen : List SeenEntry) (shelf : List Shelved) (s t : Sinks) (cause : Cause) (status : ℕ)
        → IsWholeAsking limits.asking options seen shelf → AreAnswers limits.asking options seen shelf before after
        → IsWritten limits words seen s t cause status → HasFaultsOf cause s t
        → IsRun limits words before after s t (record { status = status; cause = cause; seen = seen })
    read_run seen shelf s t cause status whole answers written faults = record {
      asked = λ e. all;
      answers = λ e. got;
      reads = asked_alone (whole_reads limits.asking options seen shelf before after whole answers);
      written = written;
      nothing = inl (all, got);
      faults = faults;
      sound = all_sound limits words seen;
    }
      where
        all : IsAllAsked limits.asking (command words) seen
        all = subst (λ c. IsAllAsked limits.asking c seen) (sym read) (shelf, whole)

        got : AreItsAnswers limits.asking (command words) seen before after
        got = subst (λ c. AreItsAnswers limits.asking c seen before after) (sym read) (shelf, answers)

  -- a word is refused, and its report was told
  pub refused_run : (refused : Refused) (files : FilesState) (s t : Sinks) (cause : Cause) (status : ℕ) → command words ≡ Err refused
      → IsWritten limits words [] s t cause status → HasFaultsOf cause s t
      → IsRun limits words files files s t (record { status = status; cause = cause; seen = [] })
  refused_run refused files s t cause status bad written faults = record {
    asked = λ e. all;
    answers = λ e. got;
    reads = subst (λ c. IsAskedAlone limits.asking c files files) (sym bad) (answered_none files);
    written = written;
    nothing = inl (all, got);
    faults = faults;
    sound = all_sound limits words [];
  }
    where
      all : IsAllAsked limits.asking (command words) []
      all = subst (λ c. IsAllAsked limits.asking c []) (sym bad) refl

      got : AreItsAnswers limits.asking (command words) [] files files
      got = subst (λ c. AreItsAnswers limits.asking c [] files files) (sym bad) (answered_none files)
