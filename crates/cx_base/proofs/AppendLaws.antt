-- What a sink holds after one more write.
use Rattle.std.proofs.Common.{◌≡◌, ℕ, ◌+◌, ◌-◌, ◌≤◌, List, ◌++◌, take, drop, length, Option, Some, None, take-add, append_assoc, ap, sym, ◌∙◌, arith, take-take, subst, length-drop}
use Rattle.std.specs.Prelude.{IfSome}
use Rattle.std.proofs.lemmas.List.{length-take}
use Rattle.cx_base.specs.Outside.{SinkState, Appends}

some_same : {b m : List ℕ} → Some b ≡ Some m → b ≡ m
some_same e = cc

held_both : (before middle after : Option (List ℕ)) (front back : List ℕ)
    → IfSome before (λ held. middle ≡ Some (held ++ front))
    → IfSome middle (λ held. after ≡ Some (held ++ back))
    → IfSome before (λ held. after ≡ Some (held ++ (front ++ back)))
held_both None middle after front back p q = tt
held_both (Some b) None after front back p q = absurd (cc)
held_both (Some b) (Some m) after front back p q =
    q ∙ ap (λ l. Some (l ++ back)) (some_same p) ∙ ap Some (append_assoc b front back)

-- two appends, one after the other
pub appends_both : (before middle after : SinkState) (front back : List ℕ)
    → Appends before middle front → Appends middle after back → Appends before after (front ++ back)
appends_both before middle after front back p q =
    held_both before.holds middle.holds after.holds front back p q

taken_length : (bytes : List ℕ) (done : ℕ) → length (take (length bytes - done) (drop done bytes)) ≡ length bytes - done
taken_length bytes done = simp (length-take, length-drop) (omega arith)

taken_more : (bytes : List ℕ) (done n : ℕ) → n ≤ length bytes - done
    → take done bytes ++ take n (take (length bytes - done) (drop done bytes)) ≡ take (done + n) bytes
taken_more bytes done n h = rw (take-take n (length bytes - done) (drop done bytes) h) (sym (take-add done n bytes))

-- one more front taken of what is left
pub took_next : (before middle after : SinkState) (bytes : List ℕ) (done n : ℕ) → done ≤ length bytes
    → n ≤ length (take (length bytes - done) (drop done bytes))
    → Appends before middle (take done bytes)
    → Appends middle after (take n (take (length bytes - done) (drop done bytes)))
    → (done + n ≤ length bytes) × Appends before after (take (done + n) bytes)
took_next before middle after bytes done n within most p q =
    let fits : n ≤ length bytes - done = rw (← taken_length bytes done) most in (
      omega arith,
      subst (Appends before after) (taken_more bytes done n fits)
          (appends_both before middle after (take done bytes) (take n (take (length bytes - done) (drop done bytes))) p q),
    )
