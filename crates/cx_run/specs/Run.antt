-- What a run of the checker is.
use Rattle.std.specs.Prelude.{◌≡◌, ◌≢◌, ◌⊎◌, ℕ, List, [], Contains, Ok}
use Rattle.cx_base.specs.Outside.{FilesState}
use Rattle.cx_base.specs.declared.answers.SeenEntry.{SeenEntry}
use Rattle.cx_base.specs.declared.finding.Finding.{Finding}
use Rattle.cx_tokens.specs.declared.token.Token.{Token}
use Rattle.cx_first.specs.Grammar.{IsFirstText}
use Rattle.cx_first.specs.Runs.{IsNeverPassed}
use Rattle.cx_first.specs.Tree.{Source}
use Rattle.cx_options.specs.declared.answer.Options.{Options}
use Rattle.cx_options.specs.Command.{command}
use Rattle.cx_pre.specs.declared.config.Config.{Config}
use Rattle.cx_pre.specs.Choosing.{IsChosen}
use Rattle.cx_pre.specs.Stages.{Answer}
use Rattle.cx_unit.specs.First.{IsFindingAt}
use Rattle.cx_unit.specs.Units.{Ground, configurations_of, shelf_number}
use Rattle.cx_run.specs.declared.limits.RunLimits.{RunLimits}
use Rattle.cx_run.specs.declared.report.Cause.TheVariants.{NoMemory}
use Rattle.cx_run.specs.declared.run_all.Ended.{Ended}
use Rattle.cx_run.specs.Asking.{AreItsAnswers, IsAllAsked, IsAskedAlone}
use Rattle.cx_run.specs.Reports.{IsGround, checked_units}
use Rattle.cx_run.specs.Written.{HasFaultsOf, IsWritten, Sinks, Took}

-- the text that a configuration of a unit is, of those that are examined
pub record IsExamined (limits : RunLimits) (words : List (List ℕ)) (seen : List SeenEntry)
    (source : Source) : Type 0 where
  pub options : Options
  pub read : command words ≡ Ok options
  pub ground : Ground
  pub stands : IsGround limits options seen ground
  pub unit : List ℕ
  pub checked : Contains (checked_units limits options seen) unit
  pub config : Config
  pub looked_at : Contains (configurations_of ground unit) config
  pub answer : Answer
  pub chosen : IsChosen ground.shelf (shelf_number ground unit) config answer
  pub tokens : List Token
  pub are : answer.tokens ≡ Ok tokens
  pub text : IsFirstText tokens source

-- No run of a text that is examined makes the value of the node of a finding, and a run comes to
-- its statement.
abbrev pub IsSound : RunLimits → List (List ℕ) → List SeenEntry → Type 0
IsSound limits words seen =
    (source : Source) (statement node : ℕ) (found : Finding) → IsExamined limits words seen source
    → IsFindingAt source statement node found → IsNeverPassed source statement node

-- a run of these words with these limits
pub record IsRun (limits : RunLimits) (words : List (List ℕ)) (files_before files_after : FilesState)
    (sinks_before sinks_after : Sinks) (ended : Ended) : Type 0 where
  -- unless memory ran out, all that the words ask was asked
  pub asked : ended.cause ≢ NoMemory → IsAllAsked limits.asking (command words) ended.seen
  -- and each answer is what the files hold, got by the calls that give it
  pub answers : ended.cause ≢ NoMemory
      → AreItsAnswers limits.asking (command words) ended.seen files_before files_after
  -- whatever the cause, the files were asked for nothing that the words do not ask
  pub reads : IsAskedAlone limits.asking (command words) files_before files_after
  -- the report of the words and of what was seen is written; where it is not written whole, a
  -- front; and the status is that of the report, or that of the fault
  pub written : IsWritten limits words ended.seen sinks_before sinks_after ended.cause ended.status
  -- unless all was asked and answered, nothing is written
  pub nothing :
      (IsAllAsked limits.asking (command words) ended.seen
      × AreItsAnswers limits.asking (command words) ended.seen files_before files_after)
      ⊎ Took sinks_before sinks_after []
  -- the count of a sink rose exactly where the cause is a fault of that sink
  pub faults : HasFaultsOf ended.cause sinks_before sinks_after
  -- a law of all that may be seen: what is found in a text is so in each run of it
  pub sound : IsSound limits words ended.seen
