use Rattle.std.proofs.Common.{◌≡◌, drop}
use Rattle.std.specs.List.{flat_map}
use Rattle.cx_configs.specs.Configurations.{lines_in}
use Rattle.cx_configs.specs.Shapes.Lists.{lists_of, with_lists}
use Rattle.cx_configs.proofs.lists.add_files.Given as goal

abbrev pub invariant-loop-file : goal.invariant-loop-file
invariant-loop-file l =
    with_lists l.most l.lists (flat_map (lists_of l.settled) (lines_in l.shelf (drop l.file-index l.files)))
    ≡ with_lists l.most l.initial.lists (flat_map (lists_of l.settled) (lines_in l.shelf l.files))
