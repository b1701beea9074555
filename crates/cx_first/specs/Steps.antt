-- What the step of a statement did to the memory, by where it leads.
use Rattle.std.specs.Prelude.{◌≡◌, ℕ, ◌+◌, ℤ, Some, slice_set}
use Rattle.cx_first.specs.declared.runs.Next.{Next}
use Rattle.cx_first.specs.declared.runs.Next.TheVariants.{Behind, Ended, Nowhere}
use Rattle.cx_first.specs.declared.evaluation.Undefined.{Undefined}
use Rattle.cx_first.specs.Tree.{Tree, Form}
use Rattle.cx_first.specs.Evaluation.{Memory}
use Rattle.cx_first.specs.Runs.{after, value_in, evaluates, StopsAt}

-- a value stored
abbrev pub StoresIs : Tree → ℕ → Memory → Memory → Next → Type 0
StoresIs tree index memory new Behind =
    (v : ℤ) × (value_in memory tree ≡ Some v) × (new ≡ slice_set memory index (Some v))
StoresIs tree index memory new Ended = ⊥
StoresIs tree index memory new (Nowhere node cause) = StopsAt tree memory node cause

-- a value returned
abbrev pub LeavesIs : Tree → Memory → Next → Type 0
LeavesIs tree memory Behind = ⊥
LeavesIs tree memory Ended = (v : ℤ) × (value_in memory tree ≡ Some v)
LeavesIs tree memory (Nowhere node cause) = StopsAt tree memory node cause

pub record IsNowhere (form : Form) (memory : Memory) (node : ℕ) (cause : Undefined) : Type 0 where
  pub tree : Tree
  pub evaluates : evaluates form ≡ Some tree
  pub stops : StopsAt tree memory node cause

abbrev pub StepIs : Form → Memory → Memory → Next → Type 0
StepIs form memory new Behind =
    (count number : ℕ) → after count (number, memory) form ≡ Some (number + 1, new)
StepIs form memory new Ended =
    (count number : ℕ) → after count (number, memory) form ≡ Some (count, memory)
StepIs form memory new (Nowhere node cause) = IsNowhere form memory node cause
