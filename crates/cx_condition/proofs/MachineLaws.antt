-- The machine, step by step.
use Rattle.std.proofs.Common.{◌≡◌, ℕ, suc, ◌+◌, ◌-◌, ◌<◌, ◌≤◌, List, [], ◌∷◌, Option, Some, None, Bool, true, false, refl, sym, ap, ◌∙◌, subst, arith}
use Rattle.std.specs.Prelude.{option_and_then}
use Rattle.cx_condition.specs.declared.value.Operand.{Operand}
use Rattle.cx_condition.specs.declared.value.Value.{Value}
use Rattle.cx_condition.specs.declared.operator.Operator.{Operator}
use Rattle.cx_condition.specs.declared.operator.Operator.TheVariants as operator
use Rattle.cx_condition.specs.declared.operator.Unary.{Unary}
use Rattle.cx_condition.specs.declared.part.Part.{Part}
use Rattle.cx_condition.specs.declared.part.Part.TheVariants as part_is
use Rattle.cx_condition.specs.declared.frame.Frame.{Frame}
use Rattle.cx_condition.specs.declared.frame.Frame.TheVariants as frame_is
use Rattle.cx_condition.specs.declared.condition.State.{State}
use Rattle.cx_condition.specs.declared.condition.State.TheVariants.{Wait, Have}
use Rattle.cx_condition.specs.Levels.{level_of}
use Rattle.cx_condition.specs.Conditions.{unary_of}
use Rattle.cx_condition.specs.Values.{binary, choice, unary}
use Rattle.cx_condition.specs.Shapes.Machine.{Going, Settled, applied, begun, binds, closed, divided, finished, followed, followed_by, going, lone, made, ran, reach, settled, step, went_on}
use Rattle.cx_condition.proofs.FrameLaws.{settled_none, settled_on, settled_stays}

pub ran_next : (fs gs : List Frame) (s t : State) (p : Part) (ps : List Part) → step fs s p ≡ going gs t → ran fs s (p ∷ ps) ≡ ran gs t ps
unfolding ran
ran_next fs gs s t p ps e = ap (option_and_then (λ g. ran g.frames g.state ps)) e

pub ran_stop : (fs : List Frame) (s : State) (p : Part) (ps : List Part) → step fs s p ≡ None → ran fs s (p ∷ ps) ≡ None
unfolding ran
ran_stop fs s p ps e = ap (option_and_then (λ g. ran g.frames g.state ps)) e

pub ran_end : (fs : List Frame) (s : State) → ran fs s [] ≡ finished fs s
unfolding ran
ran_end fs s = refl

-- what the parts that follow reach
abbrev pub reach_of : List Part → ℕ
reach_of [] = 12
reach_of (p ∷ ps) = reach p

-- what the newest frame binds
abbrev pub binds_of : List Frame → ℕ
binds_of [] = 13
binds_of (f ∷ fs) = binds f

pub settled_same : (k : ℕ) (fs : List Frame) (v : Operand) → k < binds_of fs → settled k fs v ≡ made fs v
settled_same k [] v l = settled_none k v
settled_same k (f ∷ fs) v l = settled_stays k f fs v l

-- a frame that binds tightly enough has its operand
pub reduced : (f : Frame) (fs : List Frame) (v : Operand) (ps : List Part) → binds f ≤ reach_of ps → ran (f ∷ fs) (Have v) ps ≡ ran fs (Have (applied f v)) ps
unfolding ran step finished
reduced f fs v [] l = ap lone (settled_on 12 f fs v l)
reduced f fs v (p ∷ ps) l = ap (λ r. option_and_then (λ g. ran g.frames g.state ps) (followed_by p r)) (settled_on (reach p) f fs v l)

-- the steps
pub step_constant : (fs : List Frame) (v : Value) → step fs Wait (part_is.Constant v) ≡ going fs (Have (record { is_unsigned = v.is_unsigned; bits = Some v.bits }))
unfolding step begun
step_constant fs v = refl

pub step_open : (fs : List Frame) → step fs Wait part_is.Open ≡ going (frame_is.Open ∷ fs) Wait
unfolding step begun
step_open fs = refl

pub step_unary : (fs : List Frame) (p : Part) (op : Unary) → unary_of p ≡ Some op → step fs Wait p ≡ going (frame_is.Unary op ∷ fs) Wait
unfolding step begun
step_unary fs (part_is.Constant v) op e = absurd cc
step_unary fs part_is.Open op e = absurd cc
step_unary fs p op e = ap (option_and_then (λ o. going (frame_is.Unary o ∷ fs) Wait)) e

step_of : (fs : List Frame) (v : Operand) (p : Part) → reach p < binds_of fs → step fs (Have v) p ≡ followed fs v p
unfolding step
step_of fs v p l = ap (followed_by p) (settled_same (reach p) fs v l)

pub step_binary : (fs : List Frame) (v : Operand) (op : Operator) → level_of op < binds_of fs → step fs (Have v) (part_is.Operator op) ≡ going (frame_is.Binary op v ∷ fs) Wait
unfolding followed reach
step_binary fs v op l = step_of fs v (part_is.Operator op) l

pub step_question : (fs : List Frame) (v : Operand) → 11 < binds_of fs → step fs (Have v) part_is.Question ≡ going (frame_is.Question v ∷ fs) Wait
unfolding followed reach
step_question fs v l = step_of fs v part_is.Question l

pub step_colon : (fs : List Frame) (c v : Operand) → step (frame_is.Question c ∷ fs) (Have v) part_is.Colon ≡ going (frame_is.Colon c v ∷ fs) Wait
unfolding followed reach divided binds
step_colon fs c v = step_of (frame_is.Question c ∷ fs) v part_is.Colon (omega arith)

pub step_close : (fs : List Frame) (v : Operand) → step (frame_is.Open ∷ fs) (Have v) part_is.Close ≡ going fs (Have v)
unfolding followed reach closed binds
step_close fs v = step_of (frame_is.Open ∷ fs) v part_is.Close (omega arith)
