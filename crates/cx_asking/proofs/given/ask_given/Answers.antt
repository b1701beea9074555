use Rattle.std.proofs.Common.{ap, ◌∙◌}
use Rattle.cx_asking.specs.Shapes.Steps.{members_of}
use Rattle.cx_asking.specs.Wishes.{entries_of, look_up}
use Rattle.cx_asking.proofs.AskLaws.{on_error}
use Rattle.cx_asking.proofs.WalkLaws.{given_between, given_cut_said, given_first, given_said}
use Rattle.cx_asking.proofs.given.ask_given.Goals as goal

pub returns-in_err-asked-clause-cut : goal.returns-in_err-asked-clause-cut
returns-in_err-asked-clause-cut g c =
    on_error c.from_residual.result _
    (given_first c.args.limits.now c.args.path.now c.args.asked (g.F.Files.state c.args.files.now) (g.F.Files.state c.ask_once.new.files)
    c.in_err-asked.ensures.cut)

pub returns-in_err-members-clause-cut : goal.returns-in_err-members-clause-cut
returns-in_err-members-clause-cut g c =
    on_error c.from_residual-in_err-members.result _
    (given_between c.args.limits.now c.args.path.now c.args.asked c.in_ok-asked.asked
    (g.F.Files.state c.args.files.now) (g.F.Files.state c.ask_once.new.files) c.in_ok-asked.ensures.all)

pub returns-clause-all : goal.returns-clause-all
returns-clause-all g c =
    given_said c.args.limits.now c.args.path.now c.ask_members.result c.saturating_sub-depth.result c.as_slice.result.now c.args.asked c.in_ok-asked.asked
    (g.F.Files.state c.args.files.now) (g.F.Files.state c.ask_once.new.files) (g.F.Files.state c.ask_members.new.files) c.saturating_sub-depth.ensures
    (c.as_slice.ensures.value ∙ c.in_ok-members.ensures ∙ ap (λ s. members_of c.args.path.now (entries_of (look_up s c.args.path.now))) c.answers.ensures.answers)
    c.in_ok-asked.ensures.all c.ask_members.ensures.all

pub returns-clause-cut : goal.returns-clause-cut
returns-clause-cut g c =
    given_cut_said c.args.limits.now c.args.path.now c.ask_members.result c.saturating_sub-depth.result c.as_slice.result.now c.args.asked c.in_ok-asked.asked
    (g.F.Files.state c.args.files.now) (g.F.Files.state c.ask_once.new.files) (g.F.Files.state c.ask_members.new.files) c.saturating_sub-depth.ensures
    (c.as_slice.ensures.value ∙ c.in_ok-members.ensures ∙ ap (λ s. members_of c.args.path.now (entries_of (look_up s c.args.path.now))) c.answers.ensures.answers)
    c.in_ok-asked.ensures.all c.ask_members.ensures.cut
