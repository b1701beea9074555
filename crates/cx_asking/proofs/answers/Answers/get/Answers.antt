use Rattle.std.proofs.Common.{◌≡◌, ◌<◌, ap, get_or, length, subst, ◌∙◌}
use Rattle.cx_table.specs.NameTable.{index_of}
use Rattle.cx_asking.specs.Shapes.Indexed.{paths_seen}
use Rattle.cx_asking.proofs.IndexLaws.{answer_is}
use Rattle.cx_asking.proofs.answers.Answers.get.Goals as goal

pub returns-in-Some-get : goal.returns-in-Some-get
returns-in-Some-get c =
    let slice : c.as_slice.result.now ≡ c.args.self.now = c.as_slice.ensures ∙ c.self.view_is in
    answer_is c.self.inside.paths c.args.self.now c.args.path.now c.in-Some.index c.in-Some-get.entry.now
    (c.self.invariant.paths ∙ ap paths_seen c.self.view_is)
    (c.in-Some.ensures.index ∙ ap (index_of c.self.inside.paths) c.as_bytes.ensures)
    (subst (λ s. c.in-Some.index < length s) slice c.in-Some-get.ensures.lookup.3.0)
    (subst (λ s. c.in-Some-get.entry.now ≡ get_or s c.in-Some.index c.in-Some-get.entry.now) slice c.in-Some-get.ensures.lookup.1)
