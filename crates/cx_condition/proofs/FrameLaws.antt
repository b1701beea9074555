-- The newest frame stands last in memory and first in the list.
use Rattle.std.proofs.Common.{◌≡◌, ◌≢◌, ℕ, suc, ◌+◌, ◌-◌, ◌<◌, ◌≤◌, List, [], ◌∷◌, ◌++◌, length, reverse, take, drop, get_or, Option, Some, None, Bool, true, false, refl, sym, ap, ◌∙◌, subst, cond, arith, add-one, drop-cons, nat_le, length-append}
use Rattle.std.specs.Prelude.{slice_get}
use Rattle.std.specs.Prelude.{MatchOption}
use Rattle.std.proofs.lemmas.Option.{slice_get-get_or, same_Some}
use Rattle.std.proofs.lemmas.List.{reverse-append, get_or-reverse, length-reverse}
use Rattle.std.proofs.lemmas.Bool.{cond-true, cond-false, le-leb, lt-leb}
use Rattle.cx_condition.specs.declared.frame.Frame.{Frame}
use Rattle.cx_condition.specs.declared.value.Operand.{Operand}
use Rattle.cx_condition.specs.Shapes.Machine.{applied, binds, made, newest, released, settled}

pub pushed : (fs : List Frame) (f : Frame) → reverse (fs ++ f ∷ []) ≡ f ∷ reverse fs
pushed fs f = reverse-append fs (f ∷ [])

pub settled_on : (k : ℕ) (f : Frame) (fs : List Frame) (v : Operand) → binds f ≤ k → settled k (f ∷ fs) v ≡ settled k fs (applied f v)
unfolding settled
settled_on k f fs v l = cond-true (nat_le (binds f) k) _ _ (le-leb _ _ l)

pub settled_stays : (k : ℕ) (f : Frame) (fs : List Frame) (v : Operand) → k < binds f → settled k (f ∷ fs) v ≡ made (f ∷ fs) v
unfolding settled
settled_stays k f fs v l = cond-false (nat_le (binds f) k) _ _ (lt-leb _ _ l)

pub settled_none : (k : ℕ) (v : Operand) → settled k [] v ≡ made [] v
unfolding settled
settled_none k v = refl

newest_at : (fs : List Frame) (d : Frame) → 0 < length fs → newest fs ≡ Some (get_or fs 0 d)
newest_at [] d l = absurd (omega (arith, l))
newest_at (f ∷ fs) d l = refl

pub newest_is : (fs : List Frame) → slice_get fs (length fs - 1) ≡ newest (reverse fs)
newest_is [] = refl
newest_is (f ∷ fs) = newest_of (f ∷ fs) f (omega arith)
  where
    newest_of : (fs : List Frame) (d : Frame) → 0 < length fs → slice_get fs (length fs - 1) ≡ newest (reverse fs)
    newest_of fs d l =
        slice_get-get_or fs (length fs - 1) d (omega arith)
        ∙ ap Some (ap (λ i. get_or fs i d) (omega arith) ∙ sym (get_or-reverse fs 0 d l))
        ∙ sym (newest_at (reverse fs) d (omega (arith, length-reverse fs)))

pub within_none : (k : ℕ) (fs : List Frame) (v : Operand) → newest fs ≡ None → settled k fs v ≡ made fs v
within_none k [] v e = settled_none k v
within_none k (f ∷ fs) v e = absurd cc

pub within_stays : (k : ℕ) (fs : List Frame) (f : Frame) (v : Operand) → newest fs ≡ Some f → k < binds f → settled k fs v ≡ made fs v
within_stays k [] g v e l = absurd cc
within_stays k (f ∷ fs) g v e l = settled_stays k f fs v (subst (λ h. k < binds h) (sym (same_Some f g e)) l)

pub within_goes : (k : ℕ) (fs gs : List Frame) (f : Frame) (r : Option Frame) (v : Operand) → newest fs ≡ Some f → binds f ≤ k → MatchOption r ((fs ≡ []) × (gs ≡ [])) (λ g. fs ≡ g ∷ gs) → settled k fs v ≡ released r k gs v
within_goes k fs gs f None v e l m = absurd (let h = m.0 in let n : newest fs ≡ None = ap newest h in cc)
within_goes k fs gs f (Some g) v e l m =
    ap (λ h. settled k h v) m ∙ settled_on k g gs v (subst (λ h. binds h ≤ k) (same_Some f g (sym e ∙ ap newest m)) l)
