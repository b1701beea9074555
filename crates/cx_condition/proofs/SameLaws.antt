-- At most one tree reads a list of parts.
use Rattle.std.proofs.Common.{◌≡◌, ℕ, suc, ◌+◌, ◌-◌, ◌<◌, ◌≤◌, List, [], ◌∷◌, Option, Some, None, Bool, true, false, refl, sym, ap, ◌∙◌, subst, arith}
use Rattle.std.specs.Prelude.{option_and_then}
use Rattle.cx_condition.specs.declared.value.Operand.{Operand}
use Rattle.cx_condition.specs.declared.value.Value.{Value}
use Rattle.cx_condition.specs.declared.operator.Operator.{Operator}
use Rattle.cx_condition.specs.declared.operator.Operator.TheVariants as operator
use Rattle.cx_condition.specs.declared.operator.Unary.{Unary}
use Rattle.cx_condition.specs.declared.part.Part.{Part}
use Rattle.cx_condition.specs.declared.part.Part.TheVariants as part_is
use Rattle.cx_condition.specs.declared.frame.Frame.{Frame}
use Rattle.cx_condition.specs.declared.frame.Frame.TheVariants as frame_is
use Rattle.cx_condition.specs.declared.condition.State.{State}
use Rattle.cx_condition.specs.declared.condition.State.TheVariants.{Wait, Have}
use Rattle.cx_condition.specs.Levels.{level_of}
use Rattle.cx_condition.specs.Conditions.{unary_of}
use Rattle.cx_condition.specs.Values.{binary, choice, unary}
use Rattle.cx_condition.specs.Shapes.Machine.{Going, Settled, applied, begun, binds, closed, divided, finished, followed, followed_by, going, lone, made, ran, reach, settled, step, went_on}
use Rattle.cx_condition.proofs.FrameLaws.{settled_none, settled_on, settled_stays}
use Rattle.cx_condition.specs.Conditions.{Tree, constant, prefixed, joined, conditional, evaluated, IsUnary, a_constant, an_operator, in_brackets, IsLevel, operand, chain, Goes, ends, goes_on, IsCondition, plain, choosing}
use Rattle.cx_condition.proofs.MachineLaws.{reach_of}
use Rattle.cx_condition.proofs.CompleteLaws.{goes_reach}

abbrev pub SameRead : Tree → List Part → Tree → List Part → Type 0
SameRead t rest u more = (t ≡ u) × (rest ≡ more)

first_same : {p q : Part} {ps qs : List Part} → p ∷ ps ≡ q ∷ qs → (p ≡ q) × (ps ≡ qs)
first_same e = (cc, cc)

mutual
  unfolding reach

  pub unary_same : {ts us rest more : List Part} {t u : Tree} → IsUnary ts t rest → IsUnary us u more → ts ≡ us → SameRead t rest u more
  unary_same a_constant a_constant e = let h = first_same e in (cc, h.1)
  unary_same (a_constant {v = v}) (an_operator {p = p} o r) e = let h = first_same e in let k : unary_of (part_is.Constant v) ≡ unary_of p = ap unary_of h.0 in absurd cc
  unary_same a_constant (in_brackets r) e = let h = first_same e in absurd cc
  unary_same (an_operator {p = p} o r) (a_constant {v = v}) e = let h = first_same e in let k : unary_of p ≡ unary_of (part_is.Constant v) = ap unary_of h.0 in absurd cc
  unary_same (an_operator {p = p} o r) (an_operator {p = q} d s) e =
      let h = first_same e in
      let k : unary_of p ≡ unary_of q = ap unary_of h.0 in
      let i = unary_same r s h.1 in
      let j = i.0 in
      (cc, i.1)
  unary_same (an_operator {p = p} o r) (in_brackets s) e = let h = first_same e in let k : unary_of p ≡ unary_of part_is.Open = ap unary_of h.0 in absurd cc
  unary_same (in_brackets r) a_constant e = let h = first_same e in absurd cc
  unary_same (in_brackets r) (an_operator {p = p} o s) e = let h = first_same e in let k : unary_of part_is.Open ≡ unary_of p = ap unary_of h.0 in absurd cc
  unary_same (in_brackets r) (in_brackets s) e =
      let h = first_same e in
      let i = condition_same r s h.1 (omega arith) (omega arith) in
      (i.0, (first_same i.1).1)

  pub level_same : {n m : ℕ} {ts us rest more : List Part} {t u : Tree} → IsLevel n ts t rest → IsLevel m us u more → n ≡ m → ts ≡ us → n < reach_of rest → n < reach_of more → SameRead t rest u more
  level_same (operand r) (operand s) d e l k = unary_same r s e
  level_same (operand r) (chain s g) d e l k = absurd (omega arith)
  level_same (chain r g) (operand s) d e l k = absurd (omega arith)
  level_same (chain {n = n} r g) (chain {n = m} s h) d e l k =
      let x : n ≡ m = omega (arith, d) in
      let i = level_same r s x e (goes_reach g l) (omega (arith, x, goes_reach h (omega (arith, d, k)))) in
      goes_same g h x i.0 i.1 l k

  pub goes_same : {n m : ℕ} {a b t u : Tree} {ts us rest more : List Part} → Goes n a ts t rest → Goes m b us u more → n ≡ m → a ≡ b → ts ≡ us → suc n < reach_of rest → suc n < reach_of more → SameRead t rest u more
  goes_same ends ends d x e l k = (x, e)
  goes_same (ends {n = n} {rest = rest}) (goes_on {op = op} {ts = ts} o s h) d x e l k =
      absurd (let r : reach_of rest ≡ level_of op = ap reach_of e in omega (arith, r, o, d, l))
  goes_same (goes_on {n = n} {op = op} {ts = ts} o s h) (ends {rest = rest}) d x e l k =
      absurd (let r : level_of op ≡ reach_of rest = ap reach_of e in omega (arith, r, o, k))
  goes_same (goes_on {n = n} o r g) (goes_on {n = m} v s h) d x e l k =
      let f = first_same e in
      let i = level_same r s d f.1 (goes_reach g l) (omega (arith, d, goes_reach h (omega (arith, d, k)))) in
      let j = i.0 in
      goes_same g h d (cc) i.1 l k

  pub condition_same : {ts us rest more : List Part} {t u : Tree} → IsCondition ts t rest → IsCondition us u more → ts ≡ us → 11 < reach_of rest → 11 < reach_of more → SameRead t rest u more
  condition_same (plain r) (plain s) e l k = level_same r s refl e (omega arith) (omega arith)
  condition_same (plain {rest = rest} r) (choosing {us = us} s x y) e l k =
      absurd (let i = level_same r s refl e (omega arith) (omega arith) in let q : reach_of rest ≡ 11 = ap reach_of i.1 in omega (arith, q, l))
  condition_same (choosing r x y) (plain {rest = rest} s) e l k =
      absurd (let i = level_same r s refl e (omega arith) (omega arith) in let q : 11 ≡ reach_of rest = ap reach_of i.1 in omega (arith, q, k))
  condition_same (choosing r x y) (choosing s z w) e l k =
      let i = level_same r s refl e (omega arith) (omega arith) in
      let j = condition_same x z (first_same i.1).1 (omega arith) (omega arith) in
      let h = condition_same y w (first_same j.1).1 l k in
      let i0 = i.0 in
      let j0 = j.0 in
      let h0 = h.0 in
      (cc, h.1)

pub one_reading : (ts : List Part) (t u : Tree) → IsCondition ts t [] → IsCondition ts u [] → t ≡ u
one_reading ts t u r s = (condition_same r s refl (omega arith) (omega arith)).0
