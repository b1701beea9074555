-- What a tree reads, the machine evaluates.
use Rattle.std.proofs.Common.{◌≡◌, ℕ, suc, ◌+◌, ◌-◌, ◌<◌, ◌≤◌, List, [], ◌∷◌, Option, Some, None, Bool, true, false, refl, sym, ap, ◌∙◌, subst, arith}
use Rattle.std.specs.Prelude.{option_and_then}
use Rattle.cx_condition.specs.declared.value.Operand.{Operand}
use Rattle.cx_condition.specs.declared.value.Value.{Value}
use Rattle.cx_condition.specs.declared.operator.Operator.{Operator}
use Rattle.cx_condition.specs.declared.operator.Operator.TheVariants as operator
use Rattle.cx_condition.specs.declared.operator.Unary.{Unary}
use Rattle.cx_condition.specs.declared.part.Part.{Part}
use Rattle.cx_condition.specs.declared.part.Part.TheVariants as part_is
use Rattle.cx_condition.specs.declared.frame.Frame.{Frame}
use Rattle.cx_condition.specs.declared.frame.Frame.TheVariants as frame_is
use Rattle.cx_condition.specs.declared.condition.State.{State}
use Rattle.cx_condition.specs.declared.condition.State.TheVariants.{Wait, Have}
use Rattle.cx_condition.specs.Levels.{level_of}
use Rattle.cx_condition.specs.Conditions.{unary_of}
use Rattle.cx_condition.specs.Values.{binary, choice, unary}
use Rattle.cx_condition.specs.Shapes.Machine.{Going, Settled, applied, begun, binds, closed, divided, finished, followed, followed_by, going, lone, made, ran, reach, settled, step, went_on}
use Rattle.cx_condition.proofs.FrameLaws.{settled_none, settled_on, settled_stays}
use Rattle.cx_condition.specs.Conditions.{Tree, constant, prefixed, joined, conditional, evaluated, IsUnary, a_constant, an_operator, in_brackets, IsLevel, operand, chain, Goes, ends, goes_on, IsCondition, plain, choosing}
use Rattle.cx_condition.proofs.MachineLaws.{binds_of, ran_end, ran_next, ran_stop, reach_of, reduced, settled_same, step_binary, step_close, step_colon, step_constant, step_open, step_question, step_unary}

pub goes_reach : {n : ℕ} {a t : Tree} {ts rest : List Part} → Goes n a ts t rest → suc n < reach_of rest → n < reach_of ts
unfolding reach
goes_reach ends l = omega arith
goes_reach (goes_on e b g) l = omega (arith, e)

pub reach_some : (p : Part) → 1 ≤ reach p
unfolding reach level_of
reach_some (part_is.Operator operator.Multiply) = omega arith
reach_some (part_is.Operator _) = omega arith
reach_some _ = omega arith

unary_reach : (op : Unary) (ps : List Part) → binds (frame_is.Unary op) ≤ reach_of ps
unfolding binds
unary_reach op [] = omega arith
unary_reach op (p ∷ ps) = reach_some p

mutual
  unfolding evaluated applied binds reach

  pub unary_ran : {ts rest : List Part} {t : Tree} → IsUnary ts t rest → (fs : List Frame) → ran fs Wait ts ≡ ran fs (Have (evaluated t)) rest
  unary_ran (a_constant {v = v} {rest = rest}) fs = ran_next fs fs Wait (Have (record { is_unsigned = v.is_unsigned; bits = Some v.bits })) (part_is.Constant v) rest (step_constant fs v)
  unary_ran (an_operator {p = p} {ts = ts} {rest = rest} {op = op} {a = a} e u) fs =
      ran_next fs (frame_is.Unary op ∷ fs) Wait Wait p ts (step_unary fs p op e)
      ∙ unary_ran u (frame_is.Unary op ∷ fs)
      ∙ reduced (frame_is.Unary op) fs (evaluated a) rest (unary_reach op rest)
  unary_ran (in_brackets {ts = ts} {rest = rest} {a = a} c) fs =
      ran_next fs (frame_is.Open ∷ fs) Wait Wait part_is.Open ts (step_open fs)
      ∙ condition_ran c (frame_is.Open ∷ fs) (omega arith) (omega arith)
      ∙ ran_next (frame_is.Open ∷ fs) fs (Have (evaluated a)) (Have (evaluated a)) part_is.Close rest (step_close fs (evaluated a))

  pub level_ran : {n : ℕ} {ts rest : List Part} {t : Tree} → IsLevel n ts t rest → (fs : List Frame) → n < binds_of fs → n < reach_of rest → ran fs Wait ts ≡ ran fs (Have (evaluated t)) rest
  level_ran (operand u) fs l k = unary_ran u fs
  level_ran (chain r g) fs l k = level_ran r fs (omega arith) (goes_reach g k) ∙ goes_ran g fs l k

  pub goes_ran : {n : ℕ} {a t : Tree} {ts rest : List Part} → Goes n a ts t rest → (fs : List Frame) → suc n < binds_of fs → suc n < reach_of rest → ran fs (Have (evaluated a)) ts ≡ ran fs (Have (evaluated t)) rest
  goes_ran ends fs l k = refl
  goes_ran (goes_on {n = n} {op = op} {ts = ts} {mid = mid} {a = a} {b = b} e r g) fs l k =
      let m = goes_reach g k in
      ran_next fs (frame_is.Binary op (evaluated a) ∷ fs) (Have (evaluated a)) Wait (part_is.Operator op) ts (step_binary fs (evaluated a) op (omega (arith, e, l)))
      ∙ level_ran r (frame_is.Binary op (evaluated a) ∷ fs) (omega (arith, e)) m
      ∙ reduced (frame_is.Binary op (evaluated a)) fs (evaluated b) mid (omega (arith, e, m))
      ∙ goes_ran g fs l k

  pub condition_ran : {ts rest : List Part} {t : Tree} → IsCondition ts t rest → (fs : List Frame) → 11 < binds_of fs → 11 < reach_of rest → ran fs Wait ts ≡ ran fs (Have (evaluated t)) rest
  condition_ran (plain r) fs l k = level_ran r fs (omega arith) (omega arith)
  condition_ran (choosing {us = us} {vs = vs} {rest = rest} {c = c} {a = a} {b = b} r s q) fs l k =
      level_ran r fs (omega arith) (omega arith)
      ∙ ran_next fs (frame_is.Question (evaluated c) ∷ fs) (Have (evaluated c)) Wait part_is.Question us (step_question fs (evaluated c) l)
      ∙ condition_ran s (frame_is.Question (evaluated c) ∷ fs) (omega arith) (omega arith)
      ∙ ran_next (frame_is.Question (evaluated c) ∷ fs) (frame_is.Colon (evaluated c) (evaluated a) ∷ fs) (Have (evaluated a)) Wait part_is.Colon vs (step_colon fs (evaluated c) (evaluated a))
      ∙ condition_ran q (frame_is.Colon (evaluated c) (evaluated a) ∷ fs) (omega arith) k
      ∙ reduced (frame_is.Colon (evaluated c) (evaluated a)) fs (evaluated b) rest (omega (arith, k))

ran_whole : (v : Operand) → ran [] (Have v) [] ≡ Some v
unfolding ran finished
ran_whole v = ap lone (settled_same 12 [] v (omega arith))

pub complete : (ts : List Part) (t : Tree) → IsCondition ts t [] → ran [] Wait ts ≡ Some (evaluated t)
complete ts t r = condition_ran r [] (omega arith) (omega arith) ∙ ran_whole (evaluated t)
