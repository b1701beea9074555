use Rattle.std.proofs.Common.{◌≡◌, map}
use Rattle.cx_configs.specs.Shapes.Sets.{lacking}
use Rattle.cx_configs.proofs.name_set.NameSet.lacking_in.Given as goal

abbrev pub invariant-loop-name : goal.invariant-loop-name
invariant-loop-name l =
    map (λ n. n.now) l.names.items ≡ lacking (map (λ n. n.now) l.tree.keys) (map (λ k. k.now.now) l.yielded)
