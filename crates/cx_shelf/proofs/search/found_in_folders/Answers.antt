use Rattle.std.proofs.Common.{ap, sym, ◌∙◌}
use Rattle.cx_base.specs.Simple.{simple_path}
use Rattle.cx_table.specs.NameTable.{value_of}
use Rattle.cx_shelf.specs.Searches.{in_folder}
use Rattle.cx_shelf.proofs.SearchLaws.{folder_has, folder_lacks, no_folder_more}
use Rattle.cx_shelf.proofs.search.found_in_folders.Goals as goal

pub returns-then-is_some : goal.returns-then-is_some
returns-then-is_some c =
    folder_has c.args.paths.now (λ folder. simple_path (in_folder folder c.args.name.now)) c.args.folders.now c.loop-folder.folder-index c.folder-item.result
    c.in_ok-number.number c.loop-folder-test.true c.folder-item.is c.loop-folder.invariant
    (c.in_ok-number.ensures ∙ ap (λ folder. value_of c.args.paths.now (simple_path (in_folder folder c.args.name.now))) c.as_str.ensures)
    (sym c.is_some.ensures ∙ c.if-is_some.true)

pub loop-folder-preserved : goal.loop-folder-preserved
loop-folder-preserved c =
    folder_lacks c.args.paths.now (λ folder. simple_path (in_folder folder c.args.name.now)) c.args.folders.now c.loop-folder.folder-index c.folder-item.result
    c.in_ok-number.number c.loop-folder-test.true c.folder-item.is c.loop-folder.invariant
    (c.in_ok-number.ensures ∙ ap (λ folder. value_of c.args.paths.now (simple_path (in_folder folder c.args.name.now))) c.as_str.ensures)
    (sym c.is_some.ensures ∙ c.if-is_some.false)

pub returns : goal.returns
returns c =
    no_folder_more c.args.paths.now (λ folder. simple_path (in_folder folder c.args.name.now)) c.args.folders.now c.loop-folder.folder-index c.loop-folder-test.false
    c.loop-folder.invariant
