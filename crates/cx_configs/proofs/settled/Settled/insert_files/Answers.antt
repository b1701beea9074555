use Rattle.std.proofs.Common.{ap, sym, ◌∙◌}
use Rattle.std.specs.List.{filter_map}
use Rattle.cx_lines.specs.Lines.{lines_of}
use Rattle.cx_configs.specs.Configurations.{defined_name}
use Rattle.cx_configs.specs.Shapes.Sets.{with_all_settled}
use Rattle.cx_configs.proofs.SettledLaws.{settled_files_end, settled_files_next}
use Rattle.cx_configs.proofs.settled.Settled.insert_files.Goals as goal

pub loop-file-preserved : goal.loop-file-preserved
loop-file-preserved c =
    settled_files_next c.args.shelf.now c.loop-file.self c.insert_lines.new.self c.args.files.now c.loop-file.file-index
    c.loop-file-test.true
    (c.in_ok-insert_lines.ensures
    ∙ ap (λ pieces. with_all_settled c.loop-file.self (filter_map defined_name (lines_of pieces))) c.pieces_of.ensures)
    ∙ c.loop-file.invariant

pub returns : goal.returns
returns c =
    sym (settled_files_end c.args.shelf.now c.loop-file.self c.args.files.now c.loop-file.file-index c.loop-file-test.false)
    ∙ c.loop-file.invariant
