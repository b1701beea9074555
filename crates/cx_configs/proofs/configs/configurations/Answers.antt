use Rattle.std.proofs.Common.{◌≡◌, ap, ◌∙◌, subst, sym}
use Rattle.std.specs.Prelude.{IfOk}
use Rattle.std.specs.List.{flat_map}
use Rattle.cx_library.specs.Library.{macros_of}
use Rattle.cx_shelf.specs.Closures.{closure_of}
use Rattle.cx_configs.specs.Configurations.{configurations, lines_in}
use Rattle.cx_configs.specs.Shapes.Lists.{lists_of, with_lists}
use Rattle.cx_configs.proofs.ConfigLaws.{configurations_are}
use Rattle.cx_configs.proofs.configs.configurations.Goals as goal

pub returns : goal.returns
returns c =
    let library : c.as_slice-library.result.now ≡ macros_of c.args.library.now = c.as_slice-library.ensures ∙ c.defines.ensures in
    let files = c.as_slice-files.result.now in
    let settled = c.in_ok-settled.settled in
    let most = c.most_others.result in
    let shelf = c.shelf-shelf.result.now in
    let same : shelf ≡ c.args.shelf.now = c.shelf-shelf.ensures in
    subst (λ configs. IfOk c.configs_of.result (λ cs. cs ≡ configs))
    (configurations_are shelf c.args.unit c.args.options.now c.as_slice-library.result.now files settled most
    c.add_files.new.lists c.in_ok-defines.defines
    (c.as_slice-files.ensures.value ∙ c.in_ok-files.ensures ∙ ap (λ s. closure_of s c.args.unit) (sym same))
    c.in_ok-settled.ensures c.most_others.ensures
    (c.in_ok-add_files.ensures ∙ ap (λ lists. with_lists most lists (flat_map (lists_of settled) (lines_in shelf files))) c.new-lists.ensures)
    c.in_ok-defines.ensures
    ∙ ap (λ s. configurations s c.args.unit c.args.options.now c.as_slice-library.result.now) same
    ∙ ap (configurations c.args.shelf.now c.args.unit c.args.options.now) library)
    c.configs_of.ensures
