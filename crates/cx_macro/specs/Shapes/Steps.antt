-- Macro replacement step by step: a list that is being expanded, and the calls in it whose
-- arguments are expanded first.
use Rattle.std.specs.Prelude.{◌≡◌, ℕ, ◌+◌, ◌-◌, ◌*◌, ◌<◌, ◌≤◌, List, [], ◌∷◌, ◌++◌, if◌then◌else◌, true, None, Some, ◌≢◌, slice_index_or, drop, take, length}
use Rattle.cx_tokens.specs.declared.token.Token.{Token}
use Rattle.cx_tokens.specs.Nodes.{tokens}
use Rattle.cx_macro.specs.declared.fault.MacroFault.{MacroFault}
use Rattle.cx_macro.specs.declared.fault.MacroFault.TheVariants.{NoMemory}
use Rattle.cx_macro.specs.declared.expansion.Call.{Call}
use Rattle.cx_macro.specs.declared.expansion.State.{State}
use Rattle.cx_macro.specs.declared.expansion.Step.{Step}
use Rattle.cx_macro.specs.declared.expansion.Step.TheVariants.{Ends, Goes}
use Rattle.cx_macro.specs.declared.expansion.Meaning.{Meaning}
use Rattle.cx_macro.specs.declared.expansion.Meaning.TheVariants as meaning
use Rattle.cx_macro.specs.declared.expansion.Invoked.{Invoked}
use Rattle.cx_macro.specs.declared.expansion.Invoked.TheVariants as invoked
use Rattle.cx_macro.specs.Arguments.{Arguments, Bracketed, begins_call}
use Rattle.cx_macro.specs.Shapes.Counting.{arguments_of}
use Rattle.cx_macro.specs.Expansion.{ArgumentsOutcome, Expands, ExpandsEach, Outcome, preceded_by_argument, preceded_by_token, of_function, definition_at, expanded, line_of, refused, wanted_from}
use Rattle.cx_macro.specs.Shapes.Invocations.{invocation_of}
use Rattle.cx_macro.specs.Hiding.{common, with_name}
use Rattle.cx_macro.specs.Macros.{Definition, Table}
use Rattle.cx_macro.specs.Partners.{HasNoPartners}
use Rattle.cx_macro.specs.Shapes.Substitutes.{kept_of}
use Rattle.cx_macro.specs.Replacement.{is_expanded}
use Rattle.cx_macro.specs.Shapes.Segments.{Spread}
use Rattle.cx_macro.specs.Stored.{definition_of}

-- an outcome behind tokens, and one behind arguments
abbrev pub preceded_by_tokens : List Token → Outcome → Outcome
preceded_by_tokens [] outcome = outcome
preceded_by_tokens (t ∷ ts) outcome = preceded_by_token t (preceded_by_tokens ts outcome)

abbrev pub preceded_by_each : List (List Token) → ArgumentsOutcome → ArgumentsOutcome
preceded_by_each [] outcome = outcome
preceded_by_each (ts ∷ more) outcome = preceded_by_argument ts (preceded_by_each more outcome)

-- Of a list the front is done: with so many tokens laid, what comes of those ahead is what comes of
-- the list, behind those done.
pub record LeadsOn (table : Table) (bound laid_first : ℕ) (list : List Token) (laid : ℕ)
    (done ahead : List Token) : Type 0 where
  pub leads : (outcome : Outcome) → Expands table bound laid ahead outcome
      → Expands table bound laid_first list (preceded_by_tokens done outcome)

abbrev pub macro_in : Call → Definition
macro_in call = definition_of call.stored.now

-- the arguments that a call keeps
abbrev pub kept_arguments : Call → Arguments
kept_arguments call = record { given = call.raw; left_out = call.left_out }

-- What is done of the list that calls stand in, of which the outermost stands in the list itself.
abbrev pub done_in : List Call → List Token → List Token → List Token
done_in [] outermost done = outermost
done_in (call ∷ calls) outermost done = done

-- an argument as it is expanded: nothing where it is not to be
abbrev pub wanted_argument : Definition → ℕ → List Token → List Token
wanted_argument d i argument = if is_expanded d i then argument else []

-- A call in a list, of whose arguments some are expanded, with so many tokens laid: what is done of
-- the list, and is ahead behind the call; and of how many arguments the tokens have been kept.
pub record IsCall (table : Table) (bound laid_first : ℕ) (list : List Token) (call : Call)
    (kept : ℕ) (raw : List (List Token)) (done ahead : List Token) (laid : ℕ) : Type 0 where
  pub laid_before : ℕ
  pub rest : List Token
  pub parameters : List (List ℕ)
  pub brackets : Bracketed
  pub leads : LeadsOn table bound laid_first list laid_before done (call.name ∷ rest)
  pub is_called : invocation_of table call.name rest
      ≡ of_function (macro_in call) parameters brackets
  pub after : ahead ≡ brackets.after
  pub hides : call.hide ≡ with_name call.name.text (common call.name.hide brackets.closing.hide)
  pub split : arguments_of (length parameters) (macro_in call).variadic brackets.inner
      ≡ Some (record { given = raw; left_out = call.left_out })
  pub counted : length raw ≡ call.arguments
  pub kept_so_far : call.raw ≡ kept_of (macro_in call) 0 (take kept raw)
  pub each : (outcome : ArgumentsOutcome)
      → ExpandsEach table bound laid
      (wanted_from (macro_in call) (length call.expanded) (drop (length call.expanded) raw)) outcome
      → ExpandsEach table bound laid_before (wanted_from (macro_in call) 0 raw)
      (preceded_by_each call.expanded outcome)

-- A call waits for what comes of its next argument, whose expansion begins with so many tokens
-- laid: the segments behind it are the arguments left, what is ahead behind the call, and the
-- segments that the calls around it wait for.
pub record IsWaiting (table : Table) (bound : ℕ)
    (Around : ℕ → List Token → List (List Token) → Type 0) (call : Call) (around : List Call)
    (outermost : List Token)
    (laid : ℕ) (list : List Token) (more : List (List Token)) : Type 0 where
  pub laid_first : ℕ
  pub outer : List Token
  pub raw : List (List Token)
  pub ahead : List Token
  pub outer_more : List (List Token)
  pub wait : Around laid_first outer outer_more
  pub is_call : IsCall table bound laid_first outer call (length call.expanded + 1) raw
      (done_in around outermost call.done) ahead laid
  pub begun : length call.expanded < call.arguments
  pub argument : list
      ≡ wanted_argument (macro_in call) (length call.expanded)
      (slice_index_or raw (length call.expanded) [])
  pub segments : more ≡ drop (length call.expanded + 1) raw ++ ahead ∷ outer_more

-- The calls, the innermost first, wait for what comes of a list whose expansion begins with so many
-- tokens laid.
abbrev pub AreWaiting : Table → ℕ → ℕ → List Token → List Call → List Token → ℕ → List Token
    → List (List Token) → Type 0
AreWaiting table bound start whole [] outermost laid list more =
    (laid ≡ start) × (list ≡ whole) × (more ≡ [])
AreWaiting table bound start whole (call ∷ calls) outermost laid list more =
    IsWaiting table bound (AreWaiting table bound start whole calls outermost) call calls outermost
    laid list more

-- What comes of the tokens ahead decides what comes of the whole.
pub record IsExpanding (table : Table) (bound start : ℕ) (whole : List Token) (laid : ℕ)
    (outermost done ahead : List Token) (more : List (List Token)) (calls : List Call) : Type 0
  where
    pub laid_first : ℕ
    pub list : List Token
    pub wait : AreWaiting table bound start whole calls outermost laid_first list more
    pub leads : LeadsOn table bound laid_first list laid (done_in calls outermost done) ahead

-- The same of a call whose next argument has not been begun.
pub record IsExpandingCall (table : Table) (bound start : ℕ) (whole : List Token) (laid : ℕ)
    (outermost ahead : List Token) (more : List (List Token)) (call : Call) (calls : List Call) :
    Type 0 where
  pub laid_first : ℕ
  pub list : List Token
  pub raw : List (List Token)
  pub after : List Token
  pub outer_more : List (List Token)
  pub wait : AreWaiting table bound start whole calls outermost laid_first list outer_more
  pub is_call : IsCall table bound laid_first list call (length call.expanded) raw
      (done_in calls outermost call.done) after laid
  pub segments : ahead ∷ more ≡ drop (length call.expanded) raw ++ after ∷ outer_more

-- the work that is left: each token that may still be laid, each token ahead, and each segment
abbrev pub weights : List (List Token) → ℕ
weights [] = 0
weights (segment ∷ rest) = 2 * length segment + 1 + weights rest

abbrev pub work : ℕ → ℕ → List Token → List (List Token) → ℕ
work bound laid ahead more = 2 * (bound - laid) + weights (ahead ∷ more)

-- the same where the next argument of a call has not been begun
abbrev pub work_in : ℕ → ℕ → List Token → List (List Token) → ℕ
work_in bound laid ahead more = work bound laid ahead more + 1

-- the same of a state, and of one that a token has been taken from
abbrev pub IsExpandingState : Table → ℕ → ℕ → List Token → State → Type 0
IsExpandingState table bound start whole s =
    IsExpanding table bound start whole s.laid s.buffer.done s.done s.buffer.ahead s.buffer.more
    s.calls

abbrev pub IsExpandingAfterToken : Table → ℕ → Token → ℕ → List Token → State → Type 0
IsExpandingAfterToken table bound t start whole s =
    IsExpanding table bound start whole s.laid s.buffer.done s.done (t ∷ s.buffer.ahead)
    s.buffer.more s.calls

-- A step leads from what was known to a state with less work left.
pub record StepsTo (table : Table) (bound : ℕ) (known : ℕ → List Token → Type 0) (before : ℕ)
    (new : State) : Type 0 where
  pub keeps : (start : ℕ) (whole : List Token) → known start whole
      → IsExpandingState table bound start whole new
  pub less : (start : ℕ) (whole : List Token) → known start whole
      → work bound new.laid new.buffer.ahead new.buffer.more < before
  pub within : new.laid ≤ bound

-- A step meets a fault: where it is no want of memory, it is what comes of the whole.
abbrev pub Fails : Table → ℕ → (ℕ → List Token → Type 0) → MacroFault → Type 0
Fails table bound known fault =
    fault ≢ NoMemory → (start : ℕ) (whole : List Token) → known start whole
    → Expands table bound start whole (refused fault)

-- the next token is taken
abbrev pub Takes : Table → ℕ → Token → State → State → Type 0
Takes table bound t old new =
    StepsTo table bound
    (λ start whole. IsExpandingAfterToken table bound t start whole old)
    (work bound old.laid (t ∷ old.buffer.ahead) old.buffer.more) new

abbrev pub FailsAt : Table → ℕ → Token → State → MacroFault → Type 0
FailsAt table bound t old fault =
    Fails table bound (λ start whole. IsExpandingAfterToken table bound t start whole old) fault

-- a call goes on, before these segments
abbrev pub Proceeds : Table → ℕ → ℕ → Spread → Call → List Call → State → Type 0
Proceeds table bound laid b call calls new =
    StepsTo table bound
    (λ start whole. IsExpandingCall table bound start whole laid b.done b.ahead b.more call
    calls) (work_in bound laid b.ahead b.more) new

abbrev pub FailsIn : Table → ℕ → ℕ → Spread → Call → List Call → MacroFault → Type 0
FailsIn table bound laid b call calls fault =
    Fails table bound
    (λ start whole. IsExpandingCall table bound start whole laid b.done b.ahead b.more call
    calls) fault

-- an argument ends
abbrev pub Resumes : Table → ℕ → ℕ → Spread → List Token → Call → List Call → State → Type 0
Resumes table bound laid b done call calls new =
    StepsTo table bound
    (λ start whole. IsExpanding table bound start whole laid b.done done [] b.more
    (call ∷ calls)) (work bound laid [] b.more) new

abbrev pub FailsBehind : Table → ℕ → ℕ → Spread → List Token → Call → List Call → MacroFault
    → Type 0
FailsBehind table bound laid b done call calls fault =
    Fails table bound
    (λ start whole. IsExpanding table bound start whole laid b.done done [] b.more
    (call ∷ calls)) fault

-- what a step of a state comes to
abbrev pub StepIs : Table → ℕ → State → Step → Type 0
StepIs table bound old (Goes new) =
    StepsTo table bound
    (λ start whole. IsExpandingState table bound start whole old)
    (work bound old.laid old.buffer.ahead old.buffer.more) new
StepIs table bound old (Ends done laid) =
    (laid ≤ bound)
    × ((start : ℕ) (whole : List Token) → IsExpandingState table bound start whole old
    → Expands table bound start whole (expanded (tokens done.nodes) laid) × HasNoPartners done.nodes)

abbrev pub FailsAtStart : Table → ℕ → State → MacroFault → Type 0
FailsAtStart table bound old fault =
    Fails table bound (λ start whole. IsExpandingState table bound start whole old) fault

-- what a token may be replaced by
abbrev pub MeaningIs : Table → Token → Meaning → Type 0
MeaningIs table t meaning.Itself = definition_at table t ≡ None
MeaningIs table t meaning.Line = definition_at table t ≡ Some (line_of t)
MeaningIs table t (meaning.Macro stored) = definition_at table t ≡ Some (definition_of stored.now)

-- what replaces a token, by what stands after it
abbrev pub Invokes : Table → Token → List Token → Invoked → Type 0
Invokes table t rest invoked.Line = definition_at table t ≡ Some (line_of t)
Invokes table t rest (invoked.Object stored) =
    (definition_at table t ≡ Some (definition_of stored.now)) × (stored.now.parameters ≡ None)
Invokes table t rest (invoked.Function stored parameters) =
    (definition_at table t ≡ Some (definition_of stored.now))
    × (stored.now.parameters ≡ Some parameters.now) × (begins_call rest ≡ true)
