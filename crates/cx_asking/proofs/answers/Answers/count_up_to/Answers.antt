use Rattle.std.proofs.Common.{◌-◌, ap, length, refl, ◌∙◌}
use Rattle.cx_asking.specs.Shapes.Indexed.{folder_ends}
use Rattle.cx_asking.proofs.IndexLaws.{count_all, count_none, count_there}
use Rattle.cx_asking.proofs.answers.Answers.count_up_to.Goals as goal

pub returns-then-most-eq0 : goal.returns-then-most-eq0
returns-then-most-eq0 c = count_none c.args.most c.args.self.now c.if-most-eq0.true

pub returns-in-Some : goal.returns-in-Some
returns-in-Some c =
    count_there c.deref.result.now c.args.most (c.args.most - 1) c.in-Some.count.now c.args.self.now
    (c.deref.ensures.value ∙ c.self.invariant.folders ∙ ap (folder_ends 0) c.self.view_is)
    c.if-most-eq0.false refl c.in-Some.ensures.lookup.3.0 c.in-Some.ensures.lookup.1

pub returns-in-None : goal.returns-in-None
returns-in-None c =
    ap length (c.as_slice.ensures ∙ c.self.view_is)
    ∙ count_all c.deref.result.now c.args.most (c.args.most - 1) c.args.self.now
    (c.deref.ensures.value ∙ c.self.invariant.folders ∙ ap (folder_ends 0) c.self.view_is)
    c.if-most-eq0.false refl c.in-None.ensures.lookup.3
