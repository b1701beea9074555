use Rattle.std.proofs.Common.{ap, ◌∙◌}
use Rattle.cx_table.specs.NameTable.{index_of}
use Rattle.cx_asking.specs.Shapes.Indexed.{paths_seen}
use Rattle.cx_asking.proofs.IndexLaws.{number_is}
use Rattle.cx_asking.proofs.answers.Answers.number_of.Goals as goal

pub returns : goal.returns
returns c =
    number_is c.self.inside.paths c.args.self.now c.args.path.now c.index_of.result
    (c.self.invariant.paths ∙ ap paths_seen c.self.view_is)
    (c.index_of.ensures.index ∙ ap (index_of c.self.inside.paths) c.as_bytes.ensures)
