-- One level of depth, beside the code that goes down.
use Rattle.std.proofs.Common.{◌≡◌, ap, ℕ, suc, ◌-◌, ◌<◌, arith}

pub one_level : {X : Type 0} (f : ℕ → X) (n : ℕ) → 0 < n → f n ≡ f (suc (n - 1))
one_level f n some = let e : n ≡ suc (n - 1) = omega arith in ap f e
