-- What the machine evaluates, a tree reads.
use Rattle.std.proofs.Common.{◌≡◌, ℕ, suc, ◌+◌, ◌-◌, ◌<◌, ◌≤◌, List, [], ◌∷◌, Option, Some, None, Bool, true, false, refl, sym, ap, ◌∙◌, subst, arith}
use Rattle.std.specs.Prelude.{option_and_then}
use Rattle.cx_condition.specs.declared.value.Operand.{Operand}
use Rattle.cx_condition.specs.declared.value.Value.{Value}
use Rattle.cx_condition.specs.declared.operator.Operator.{Operator}
use Rattle.cx_condition.specs.declared.operator.Operator.TheVariants as operator
use Rattle.cx_condition.specs.declared.operator.Unary.{Unary}
use Rattle.cx_condition.specs.declared.part.Part.{Part}
use Rattle.cx_condition.specs.declared.part.Part.TheVariants as part_is
use Rattle.cx_condition.specs.declared.frame.Frame.{Frame}
use Rattle.cx_condition.specs.declared.frame.Frame.TheVariants as frame_is
use Rattle.cx_condition.specs.declared.condition.State.{State}
use Rattle.cx_condition.specs.declared.condition.State.TheVariants.{Wait, Have}
use Rattle.cx_condition.specs.Levels.{level_of}
use Rattle.cx_condition.specs.Conditions.{unary_of}
use Rattle.cx_condition.specs.Values.{binary, choice, unary}
use Rattle.cx_condition.specs.Shapes.Machine.{Going, Settled, applied, begun, binds, closed, divided, finished, followed, followed_by, going, lone, made, ran, reach, settled, step, went_on, lone_of}
use Rattle.cx_condition.proofs.FrameLaws.{settled_none, settled_on, settled_stays}
use Rattle.std.proofs.Common.{zero, ⊎_elim, ◌≢◌}
use Rattle.std.proofs.lemmas.Bool.{cases_lt}
use Rattle.std.proofs.lemmas.Option.{same_Some}
use Rattle.cx_condition.specs.Conditions.{Tree, constant, prefixed, joined, conditional, evaluated, IsUnary, a_constant, an_operator, in_brackets, IsLevel, operand, chain, Goes, ends, goes_on, IsCondition, plain, choosing}
use Rattle.cx_condition.proofs.MachineLaws.{binds_of, ran_end, ran_next, ran_stop, reach_of, reduced, settled_same, step_binary, step_close, step_colon, step_constant, step_open, step_question, step_unary}

-- a front of parts is a tree of a level up to 10, or of level 11 a condition
data Stands : ℕ → List Part → Tree → List Part → Type 0 where
  at_level : {n : ℕ} {ts rest : List Part} {t : Tree} → n ≤ 10 → IsLevel n ts t rest → Stands n ts t rest
  at_top : {n : ℕ} {ts rest : List Part} {t : Tree} → n ≡ 11 → IsCondition ts t rest → Stands n ts t rest

-- Waits all fs ts: frames are what stands in all before ts.
data Waits (all : List Part) : List Frame → List Part → Type 0 where
  nothing : Waits all [] all
  after_unary : {fs : List Frame} {p : Part} {ts : List Part} {op : Unary} → Waits all fs (p ∷ ts) → unary_of p ≡ Some op → Waits all (frame_is.Unary op ∷ fs) ts
  after_binary : {fs : List Frame} {us ts : List Part} {op : Operator} {a : Tree} {x : Operand} {n : ℕ} → Waits all fs us → level_of op ≡ suc n → suc n < binds_of fs → suc n ≤ 10
      → IsLevel (suc n) us a (part_is.Operator op ∷ ts) → x ≡ evaluated a → Waits all (frame_is.Binary op x ∷ fs) ts
  after_open : {fs : List Frame} {ts : List Part} → Waits all fs (part_is.Open ∷ ts) → Waits all (frame_is.Open ∷ fs) ts
  after_question : {fs : List Frame} {us ts : List Part} {c : Tree} {x : Operand} → Waits all fs us → 11 < binds_of fs
      → IsLevel 10 us c (part_is.Question ∷ ts) → x ≡ evaluated c → Waits all (frame_is.Question x ∷ fs) ts
  after_colon : {fs : List Frame} {us vs ts : List Part} {c a : Tree} {x y : Operand} → Waits all fs us → 11 < binds_of fs
      → IsLevel 10 us c (part_is.Question ∷ vs) → IsCondition vs a (part_is.Colon ∷ ts) → x ≡ evaluated c → y ≡ evaluated a → Waits all (frame_is.Colon x y ∷ fs) ts

abbrev pub Reading : List Part → Operand → Type 0
Reading all v = (t : Tree) × IsCondition all t [] × (evaluated t ≡ v)

-- levels
raised : (k : ℕ) {n : ℕ} {ts rest : List Part} {t : Tree} → IsLevel n ts t rest → n ≤ k → IsLevel k ts t rest
raised zero {n} {ts} {rest} {t} r l = subst (λ m. IsLevel m ts t rest) (omega arith) r
raised (suc k) {n} {ts} {rest} {t} r l =
    ⊎_elim
    (λ (h : k < n). subst (λ m. IsLevel m ts t rest) (omega arith) r)
    (λ (h : n ≤ k). chain (raised k r h) ends)
    (cases_lt k n)

to_level : (k : ℕ) {n : ℕ} {ts rest : List Part} {t : Tree} → Stands n ts t rest → n ≤ k → k ≤ 10 → IsLevel k ts t rest
to_level k (at_level l r) h i = raised k r h
to_level k (at_top e r) h i = absurd (omega arith)

to_condition : {n : ℕ} {ts rest : List Part} {t : Tree} → Stands n ts t rest → IsCondition ts t rest
to_condition (at_level l r) = plain (raised 10 r l)
to_condition (at_top e r) = r

extended : {n : ℕ} {x a b : Tree} {ts us rest : List Part} {op : Operator} → Goes n x ts a (part_is.Operator op ∷ us) → level_of op ≡ suc n → IsLevel n us b rest → Goes n x ts (joined op a b) rest
extended ends e r = goes_on e r ends
extended (goes_on d s g) e r = goes_on d s (extended g e r)

longer : {n : ℕ} {a b : Tree} {ts us rest : List Part} {op : Operator} → IsLevel (suc n) ts a (part_is.Operator op ∷ us) → level_of op ≡ suc n → IsLevel n us b rest → IsLevel (suc n) ts (joined op a b) rest
longer (chain r g) e s = chain r (extended g e s)

level_some : (op : Operator) → 1 ≤ level_of op
unfolding level_of
level_some operator.Multiply = omega arith
level_some _ = omega arith

level_most : (op : Operator) → level_of op ≤ 10
unfolding level_of
level_most operator.Multiply = omega arith
level_most _ = omega arith

reach_most : (p : Part) → reach p ≤ 12
unfolding reach
reach_most (part_is.Operator op) = omega (arith, level_most op)
reach_most _ = omega arith

-- a frame with its operand
record Given (all : List Part) (fs : List Frame) (f : Frame) (v : Operand) (ts : List Part) : Type 0 where
  begin : List Part
  tree : Tree
  level : ℕ
  waits : Waits all fs begin
  stands : Stands level begin tree ts
  below : level < binds_of fs
  value : applied f v ≡ evaluated tree
  within : level ≤ binds f
  top : level ≡ 11 → 12 ≤ binds f

binds_some : (fs : List Frame) → 0 < binds_of fs
unfolding binds
binds_some [] = omega arith
binds_some (frame_is.Binary op x ∷ fs) = level_some op
binds_some (frame_is.Unary op ∷ fs) = omega arith
binds_some (frame_is.Open ∷ fs) = omega arith
binds_some (frame_is.Question x ∷ fs) = omega arith
binds_some (frame_is.Colon x y ∷ fs) = omega arith

given : {all : List Part} (f : Frame) (fs : List Frame) {us ts : List Part} {t : Tree} {n : ℕ} → Waits all (f ∷ fs) us → Stands n us t ts → n < binds f → binds f ≤ 12 → Given all fs f (evaluated t) ts
unfolding binds applied evaluated
given (frame_is.Unary op) fs {ts = ts} {t = t} (after_unary {p = p} {ts = us} w e) s l k = record {
  begin = p ∷ us;
  tree = prefixed op t;
  level = 0;
  waits = w;
  stands = at_level (omega arith) (operand (an_operator e (to_unary (to_level 0 s (omega arith) (omega arith)))));
  below = binds_some fs;
  value = refl;
  within = omega arith;
  top = λ h. absurd (omega arith);
}
  where
    to_unary : {ts rest : List Part} {t : Tree} → IsLevel 0 ts t rest → IsUnary ts t rest
    to_unary (operand u) = u
given (frame_is.Binary op x) fs {ts = ts} {t = t} (after_binary {us = us} {a = a} {n = n} w e d i r v) s l k = record {
  begin = us;
  tree = joined op a t;
  level = suc n;
  waits = w;
  stands = at_level i (longer r e (to_level n s (omega arith) (omega arith)));
  below = d;
  value = ap (λ y. binary op y (evaluated t)) v;
  within = omega arith;
  top = λ h. absurd (omega arith);
}
given frame_is.Open fs w s l k = absurd (omega arith)
given (frame_is.Question x) fs w s l k = absurd (omega arith)
given (frame_is.Colon x y) fs {ts = ts} {t = t} (after_colon {us = us} {c = c} {a = a} w d r q v u) s l k = record {
  begin = us;
  tree = conditional c a t;
  level = 11;
  waits = w;
  stands = at_top refl (choosing r q (to_condition s));
  below = d;
  value = ap (λ z. choice z y (evaluated t)) v ∙ ap (λ z. choice (evaluated c) z (evaluated t)) u;
  within = omega arith;
  top = λ h. omega arith;
}

record Rests (all : List Part) (s : Settled) (k : ℕ) (ts : List Part) : Type 0 where
  begin : List Part
  tree : Tree
  level : ℕ
  waits : Waits all s.frames begin
  stands : Stands level begin tree ts
  below : level < binds_of s.frames
  value : s.operand ≡ evaluated tree
  within : level ≤ k
  top : level ≡ 11 → 12 ≤ k
  stays : k < binds_of s.frames

rests : {all : List Part} (k : ℕ) (fs : List Frame) {us ts : List Part} {t : Tree} {n : ℕ} (v : Operand) → v ≡ evaluated t → k ≤ 12 → Waits all fs us → Stands n us t ts → n < binds_of fs → n ≤ k → (n ≡ 11 → 12 ≤ k) → Rests all (settled k fs v) k ts
rests {all} k [] {us} {ts} {t} {n} v e h w s l i j = subst (λ r. Rests all r k ts) (sym (settled_none k v)) (record { begin = us; tree = t; level = n; waits = w; stands = s; below = l; value = e; within = i; top = j; stays = omega arith })
rests {all} k (f ∷ fs) {us} {ts} {t} {n} v e h w s l i j =
    ⊎_elim
    (λ (d : k < binds f). subst (λ r. Rests all r k ts) (sym (settled_stays k f fs v d)) (record { begin = us; tree = t; level = n; waits = w; stands = s; below = l; value = e; within = i; top = j; stays = d }))
    (λ (d : binds f ≤ k).
    let g = given f fs w s l (omega arith) in
    subst (λ r. Rests all r k ts) (sym (settled_on k f fs v d))
    (rests k fs (applied f v) (ap (applied f) e ∙ g.value) h g.waits g.stands g.below (omega (arith, g.within)) (λ x. omega (arith, g.top x))))
    (cases_lt k (binds f))

-- what the end makes of what rests
lone_read : {all : List Part} (fs : List Frame) (x v : Operand) → Rests all (made fs x) 12 [] → lone_of fs x ≡ Some v → Reading all v
lone_read [] x v r e = whole r.waits r.stands (sym r.value ∙ same_Some x v e)
  where
    whole : {all us : List Part} {t : Tree} {n : ℕ} {v : Operand} → Waits all [] us → Stands n us t [] → evaluated t ≡ v → Reading all v
    whole {t = t} nothing s e = (t, to_condition s, e)
lone_read (f ∷ fs) x v r e = absurd cc

-- what is still to be read leads to a tree of all
record Sound (all ts : List Part) : Type 0 where
  wait : (fs : List Frame) (v : Operand) → Waits all fs ts → ran fs Wait ts ≡ Some v → Reading all v
  have : (fs : List Frame) (us : List Part) (t : Tree) (x v : Operand) → x ≡ evaluated t → Waits all fs us → IsUnary us t ts → ran fs (Have x) ts ≡ Some v → Reading all v

sound_end : (all : List Part) → Sound all []
unfolding ran finished
sound_end all = record {
  wait = λ fs v w e. absurd cc;
  have = λ fs us t x v d w u e.
      lone_read (settled 12 fs x).frames (settled 12 fs x).operand v
      (rests 12 fs x d (omega arith) w (at_level (omega arith) (operand u)) (binds_some fs) (omega arith) (λ h. omega arith))
      e;
}

other_read : {all ts : List Part} → Sound all ts → (fs : List Frame) (p : Part) (v : Operand) (o : Option Unary) → unary_of p ≡ o
    → step fs Wait p ≡ option_and_then (λ op. going (frame_is.Unary op ∷ fs) Wait) (unary_of p) → Waits all fs (p ∷ ts) → ran fs Wait (p ∷ ts) ≡ Some v → Reading all v
other_read {ts = ts} h fs p v None d k w e =
    absurd (let n = ran_stop fs Wait p ts (k ∙ ap (option_and_then (λ op. going (frame_is.Unary op ∷ fs) Wait)) d) in cc)
other_read {ts = ts} h fs p v (Some op) d k w e =
    h.wait (frame_is.Unary op ∷ fs) v (after_unary w d) (sym (ran_next fs (frame_is.Unary op ∷ fs) Wait Wait p ts (step_unary fs p op d)) ∙ e)

wait_read : {all ts : List Part} → Sound all ts → (fs : List Frame) (p : Part) (v : Operand) → Waits all fs (p ∷ ts) → ran fs Wait (p ∷ ts) ≡ Some v → Reading all v
unfolding step begun evaluated
wait_read {ts = ts} h fs (part_is.Constant c) v w e =
    h.have fs (part_is.Constant c ∷ ts) (constant c) (record { is_unsigned = c.is_unsigned; bits = Some c.bits }) v refl w a_constant
    (sym (ran_next fs fs Wait (Have (record { is_unsigned = c.is_unsigned; bits = Some c.bits })) (part_is.Constant c) ts (step_constant fs c)) ∙ e)
wait_read {ts = ts} h fs part_is.Open v w e =
    h.wait (frame_is.Open ∷ fs) v (after_open w) (sym (ran_next fs (frame_is.Open ∷ fs) Wait Wait part_is.Open ts (step_open fs)) ∙ e)
wait_read h fs p v w e = other_read h fs p v (unary_of p) refl refl w e

colon_after : {all us ts : List Part} {fs : List Frame} {c y : Operand} {t : Tree} → Waits all (frame_is.Question c ∷ fs) us → IsCondition us t (part_is.Colon ∷ ts) → y ≡ evaluated t → Waits all (frame_is.Colon c y ∷ fs) ts
colon_after (after_question w d r x) s e = after_colon w d r s x e

open_before : {all us : List Part} {fs : List Frame} → Waits all (frame_is.Open ∷ fs) us → Waits all fs (part_is.Open ∷ us)
open_before (after_open w) = w

colon_read : {all ts : List Part} → Sound all ts → (fs : List Frame) (x v : Operand) → Rests all (made fs x) 12 (part_is.Colon ∷ ts) → option_and_then (λ g. ran g.frames g.state ts) (divided fs x) ≡ Some v → Reading all v
unfolding divided
colon_read h (frame_is.Question c ∷ fs) x v r e = h.wait (frame_is.Colon c x ∷ fs) v (colon_after r.waits (to_condition r.stands) r.value) e
colon_read h [] x v r e = absurd cc
colon_read h (frame_is.Unary op ∷ fs) x v r e = absurd cc
colon_read h (frame_is.Binary op y ∷ fs) x v r e = absurd cc
colon_read h (frame_is.Open ∷ fs) x v r e = absurd cc
colon_read h (frame_is.Colon c y ∷ fs) x v r e = absurd cc

close_read : {all ts : List Part} → Sound all ts → (fs : List Frame) (x v : Operand) → Rests all (made fs x) 12 (part_is.Close ∷ ts) → option_and_then (λ g. ran g.frames g.state ts) (closed fs x) ≡ Some v → Reading all v
unfolding closed
close_read h (frame_is.Open ∷ fs) x v r e = h.have fs (part_is.Open ∷ r.begin) r.tree x v r.value (open_before r.waits) (in_brackets (to_condition r.stands)) e
close_read h [] x v r e = absurd cc
close_read h (frame_is.Unary op ∷ fs) x v r e = absurd cc
close_read h (frame_is.Binary op y ∷ fs) x v r e = absurd cc
close_read h (frame_is.Question c ∷ fs) x v r e = absurd cc
close_read h (frame_is.Colon c y ∷ fs) x v r e = absurd cc

followed_read : {all ts : List Part} → Sound all ts → (p : Part) (fs : List Frame) (x v : Operand) → Rests all (made fs x) (reach p) (p ∷ ts) → option_and_then (λ g. ran g.frames g.state ts) (followed fs x p) ≡ Some v → Reading all v
unfolding followed reach
followed_read h (part_is.Operator op) fs x v r e =
    let low = level_some op in
    let most = level_most op in
    let k : level_of op ≡ suc (level_of op - 1) = omega (arith, low) in
    let w = r.within in
    let stays = r.stays in
    h.wait (frame_is.Binary op x ∷ fs) v
    (after_binary r.waits k (omega (arith, stays, k)) (omega (arith, most, k)) (to_level (suc (level_of op - 1)) r.stands (omega (arith, w, k)) (omega (arith, most, k))) r.value)
    e
followed_read h part_is.Question fs x v r e =
    let w = r.within in
    let m = r.top in
    h.wait (frame_is.Question x ∷ fs) v (after_question r.waits r.stays (to_level 10 r.stands (at_most r.level w m) (omega arith)) r.value) e
  where
    at_most : (n : ℕ) → n ≤ 11 → (n ≡ 11 → 12 ≤ 11) → n ≤ 10
    at_most n l h = ⊎_elim (λ (d : n < 11). omega (arith, d)) (λ (d : 11 ≤ n). absurd (let k = h (omega (arith, l, d)) in omega (arith, k))) (cases_lt n 11)
followed_read h part_is.Colon fs x v r e = colon_read h fs x v r e
followed_read h part_is.Close fs x v r e = close_read h fs x v r e
followed_read h _ fs x v r e = absurd cc

sound_step : {all ts : List Part} (p : Part) → Sound all ts → Sound all (p ∷ ts)
unfolding ran step
sound_step p h = record {
  wait = λ fs v w e. wait_read h fs p v w e;
  have = λ fs us t x v d w u e.
      followed_read h p (settled (reach p) fs x).frames (settled (reach p) fs x).operand v
      (rests (reach p) fs x d (reach_most p) w (at_level (omega arith) (operand u)) (binds_some fs) (omega arith) (λ h. absurd (omega arith)))
      e;
}

soundly : (all ts : List Part) → Sound all ts
soundly all [] = sound_end all
soundly all (p ∷ ts) = sound_step p (soundly all ts)

pub sound : (ts : List Part) (v : Operand) → ran [] Wait ts ≡ Some v → Reading ts v
sound ts v e = (soundly ts ts).wait [] v nothing e
