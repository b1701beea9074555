use Rattle.std.proofs.Common.{◌≡◌, [], ◌∷◌, ◌++◌, drop, map}
use Rattle.cx_configs.proofs.configs.configs_of.Given as goal

abbrev pub invariant-loop-names : goal.invariant-loop-names
invariant-loop-names l =
    l.configs
    ++ map (λ k. record { defines = l.defines; names = map (λ n. n.now) k.keys }) (drop l.names-index l.names-items)
    ≡ record { defines = l.defines; names = [] }
    ∷ map (λ k. record { defines = l.defines; names = map (λ n. n.now) k.keys }) l.names-items
