use Rattle.std.proofs.Common.{[], ◌∷◌, ◌++◌, ap, sym, ◌∙◌, map}
use Rattle.std.proofs.lemmas.List.{append-nil, drop_all}
use Rattle.cx_configs.proofs.ConfigLaws.{configs_seen}
use Rattle.cx_configs.proofs.configs.configs_of.Goals as goal

pub returns : goal.returns
returns c =
    let items = c.as_slice-names-items.result.now in
    let none = drop_all c.loop-names.names-index items c.loop-names-test.false in
    sym (append-nil c.loop-names.configs)
    ∙ ap (λ rest. c.loop-names.configs ++ map (λ k. record { defines = c.args.defines.now; names = map (λ n. n.now) k.keys }) rest) (sym none)
    ∙ c.loop-names.invariant
    ∙ ap (λ rest. record { defines = c.args.defines.now; names = [] } ∷ rest)
    (configs_seen c.args.defines.now (λ k. map (λ n. n.now) k.keys) items c.args.lists.now c.as_slice-names-items.ensures)
