use Rattle.std.proofs.Common.{◌≡◌, map}
use Rattle.cx_configs.proofs.name_set.NameSet.to_vec.Given as goal

abbrev pub invariant-loop-name : goal.invariant-loop-name
invariant-loop-name l = l.names.items ≡ map (λ k. k.now) l.yielded
