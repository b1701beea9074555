use Rattle.std.proofs.Common.{ap, sym, ◌∙◌}
use Rattle.cx_lines.specs.Lines.{lines_of}
use Rattle.cx_configs.specs.Shapes.Lists.{lists_of, with_lists}
use Rattle.cx_configs.proofs.AskingLaws.{lists_files_end, lists_files_next}
use Rattle.cx_configs.proofs.lists.add_files.Goals as goal

pub loop-file-preserved : goal.loop-file-preserved
loop-file-preserved c =
    lists_files_next c.args.shelf.now c.args.most c.args.settled.now c.loop-file.lists c.add_file.new.lists
    c.args.files.now c.loop-file.file-index c.loop-file-test.true
    (c.in_ok-add_file.ensures
    ∙ ap (λ pieces. with_lists c.args.most c.loop-file.lists (lists_of c.args.settled.now (lines_of pieces)))
    c.pieces_of.ensures)
    ∙ c.loop-file.invariant

pub returns : goal.returns
returns c =
    sym (lists_files_end c.args.shelf.now c.args.most c.args.settled.now c.loop-file.lists c.args.files.now
    c.loop-file.file-index c.loop-file-test.false)
    ∙ c.loop-file.invariant
