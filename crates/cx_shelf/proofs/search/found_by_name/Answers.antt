use Rattle.std.proofs.Common.{ap, map, sym, ◌∙◌}
use Rattle.std.proofs.lemmas.Result.{IfOk-weaker}
use Rattle.cx_base.specs.Simple.{is_rooted, simple_path}
use Rattle.cx_table.specs.NameTable.{value_of}
use Rattle.cx_shelf.specs.Searches.{in_folder}
use Rattle.cx_shelf.specs.Shapes.Searching.{first_among}
use Rattle.cx_shelf.proofs.SearchLaws.{folders_next, own_first, rooted_alone}
use Rattle.cx_shelf.proofs.search.found_by_name.Goals as goal

pub returns-then-is_rooted : goal.returns-then-is_rooted
returns-then-is_rooted c =
    IfOk-weaker c.found_at.result _ _
    (λ r h. rooted_alone c.args.paths.now c.args.folders.now c.args.includer.now c.args.include.now r (ap is_rooted (sym c.requires) ∙ sym c.is_rooted.ensures ∙ c.if-is_rooted.true)
    (h ∙ ap (λ name. value_of c.args.paths.now (simple_path name)) c.requires))
    c.found_at.ensures

pub returns-then-is_some : goal.returns-then-is_some
returns-then-is_some c =
    own_first c.args.paths.now c.args.folders.now c.args.includer.now c.args.include.now c.in_ok-own.own
    (ap is_rooted (sym c.requires) ∙ sym c.is_rooted.ensures ∙ c.if-is_rooted.false) c.in_ok-own.ensures (sym c.is_some.ensures ∙ c.if-is_some.true)

pub returns : goal.returns
returns c =
    IfOk-weaker c.found_in_folders.result _ _
    (λ r h. folders_next c.args.paths.now c.args.folders.now c.args.includer.now c.args.include.now r c.in_ok-own.own
    (ap is_rooted (sym c.requires) ∙ sym c.is_rooted.ensures ∙ c.if-is_rooted.false) c.in_ok-own.ensures
    (sym c.is_some.ensures ∙ c.if-is_some.false)
    (h ∙ ap (λ name. first_among c.args.paths.now (map (λ folder. simple_path (in_folder folder name)) c.args.folders.now)) c.requires))
    c.found_in_folders.ensures
