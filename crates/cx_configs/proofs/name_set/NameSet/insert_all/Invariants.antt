use Rattle.std.proofs.Common.{◌≡◌, drop, map}
use Rattle.cx_configs.specs.Shapes.Sets.{with_all}
use Rattle.cx_configs.proofs.name_set.NameSet.insert_all.Given as goal

abbrev pub invariant-loop-name : goal.invariant-loop-name
invariant-loop-name l =
    with_all l.self (map (λ n. n.now) (drop l.name-index l.names))
    ≡ with_all l.initial.self (map (λ n. n.now) l.names)
