use Rattle.std.proofs.Common.{◌∙◌}
use Rattle.cx_asking.proofs.IndexLaws.{early_is, late_is, never_is}
use Rattle.cx_asking.proofs.answers.Answers.early.Goals as goal
use Rattle.cx_asking.proofs.answers.Answers.early.Goals.{in_default-via-in-Some+else-number-count_up_to, in_default-via-in_default}

pub returns-in-Some : goal.returns-in-Some
returns-in-Some c =
    c.get.ensures
    ∙ early_is c.args.most c.args.self.now c.args.path.now c.in-Some.number c.count_up_to.result c.in-Some.ensures c.count_up_to.ensures
    c.if-number-count_up_to.true

pub returns-in_default : goal.returns-in_default
returns-in_default c =
    elim c.in_default.branch [
      | in_default-via-in-Some+else-number-count_up_to w ↦
          late_is c.args.most c.args.self.now c.args.path.now w.in-Some.number w.count_up_to.result w.in-Some.ensures w.count_up_to.ensures
          w.if-number-count_up_to.false
      | in_default-via-in_default w ↦ never_is c.args.most c.args.self.now c.args.path.now w.in_default.ensures
    ]
