-- What is chosen of a unit.
use Rattle.std.proofs.Common.{◌≡◌, ℕ, sym, subst, Err}
use Rattle.cx_macro.specs.Macros.{Table}
use Rattle.cx_pre.specs.declared.fault.PreFault.{PreFault}
use Rattle.cx_pre.specs.declared.config.Config.{Config}
use Rattle.cx_shelf.specs.declared.shelf.Shelf.{Shelf}
use Rattle.cx_pre.specs.Choosing.{Enters, IsChosen, include_depth, is_chosen}
use Rattle.cx_pre.specs.Stages.{Answer, Outcome, Stage, answer_of, first_stage, stopped}
use Rattle.cx_pre.specs.Starts.{IsStart}

-- what comes of the unit's file gives the answer
pub is_answer : (shelf : Shelf) (unit : ℕ) (config : Config) (s : Stage) (outcome : Outcome) (answer : Answer)
    → (macros : Table) × IsStart config macros × (s ≡ first_stage shelf macros) → Enters shelf include_depth unit s outcome
    → answer ≡ answer_of outcome → IsChosen shelf unit config answer
is_answer shelf unit config s outcome answer (macros, start, first) h e =
    subst (IsChosen shelf unit config) (sym e) (is_chosen macros outcome start (subst (λ t. Enters shelf include_depth unit t outcome) first h))

pub is_refusal : (shelf : Shelf) (unit : ℕ) (config : Config) (s new : Stage) (fault : PreFault)
    → (macros : Table) × IsStart config macros × (s ≡ first_stage shelf macros) → Enters shelf include_depth unit s (stopped new.missing fault)
    → IsChosen shelf unit config (record { tokens = Err fault; missing = new.missing })
unfolding answer_of
is_refusal shelf unit config s new fault (macros, start, first) h =
    is_chosen macros (stopped new.missing fault) start (subst (λ t. Enters shelf include_depth unit t (stopped new.missing fault)) first h)
