use Rattle.std.proofs.Common.{◌≡◌, map}
use Rattle.cx_configs.proofs.configs.texts_of.Given as goal

abbrev pub invariant-loop-name : goal.invariant-loop-name
invariant-loop-name l = l.texts ≡ map (λ n. n.now) (map (λ k. k.now) l.yielded)
