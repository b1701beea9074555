use Rattle.std.proofs.Common.{ap, ◌∙◌}
use Rattle.cx_asking.specs.declared.purpose.Purpose.TheVariants as purpose
use Rattle.cx_asking.specs.Shapes.Steps.{members_of}
use Rattle.cx_asking.specs.Wishes.{entries_among}
use Rattle.cx_asking.proofs.AskLaws.{on_error, one}
use Rattle.cx_asking.proofs.WalkLaws.{all_asked, as_file, as_folder, asks_said, cut_said, no_subfolder, none_asked, of_member, of_subfolder, one_cut, one_more, subfolder_between, subfolder_cut_said, subfolder_first, subfolder_said}
use Rattle.cx_asking.proofs.walk.+walk.Goals as goal

pub ask_member-returns-then-member-clause-all : goal.ask_member-returns-then-member-clause-all
ask_member-returns-then-member-clause-all g t c =
    asks_said c.ask_subfolder.result c.args.limits.now (of_subfolder c.args.limits.now c.args.depth c.args.member.now.path)
    (of_member c.args.limits.now c.args.depth c.args.member.now) c.args.asked (g.F.Files.state c.args.files.now) (g.F.Files.state c.ask_subfolder.new.files)
    (as_folder c.args.limits.now c.args.depth c.args.member.now c.if-member.true c.args.asked) c.ask_subfolder.ensures.all

pub ask_member-returns-then-member-clause-cut : goal.ask_member-returns-then-member-clause-cut
ask_member-returns-then-member-clause-cut g t c =
    cut_said c.ask_subfolder.result c.args.limits.now (of_subfolder c.args.limits.now c.args.depth c.args.member.now.path)
    (of_member c.args.limits.now c.args.depth c.args.member.now) c.args.asked (g.F.Files.state c.args.files.now) (g.F.Files.state c.ask_subfolder.new.files)
    (as_folder c.args.limits.now c.args.depth c.args.member.now c.if-member.true c.args.asked) c.ask_subfolder.ensures.cut

pub ask_member-returns-else-member-clause-all : goal.ask_member-returns-else-member-clause-all
ask_member-returns-else-member-clause-all g t c =
    asks_said c.ask_once.result c.args.limits.now (one purpose.File c.args.member.now.path)
    (of_member c.args.limits.now c.args.depth c.args.member.now) c.args.asked (g.F.Files.state c.args.files.now) (g.F.Files.state c.ask_once.new.files)
    (as_file c.args.limits.now c.args.depth c.args.member.now c.if-member.false c.args.asked) c.ask_once.ensures.all

pub ask_member-returns-else-member-clause-cut : goal.ask_member-returns-else-member-clause-cut
ask_member-returns-else-member-clause-cut g t c =
    cut_said c.ask_once.result c.args.limits.now (one purpose.File c.args.member.now.path)
    (of_member c.args.limits.now c.args.depth c.args.member.now) c.args.asked (g.F.Files.state c.args.files.now) (g.F.Files.state c.ask_once.new.files)
    (as_file c.args.limits.now c.args.depth c.args.member.now c.if-member.false c.args.asked) c.ask_once.ensures.cut

pub ask_members-loop-member-init : goal.ask_members-loop-member-init
ask_members-loop-member-init g t c =
    none_asked c.args.limits.now (of_member c.args.limits.now c.args.depth) c.args.members.now c.args.asked (g.F.Files.state c.args.files.now)

pub ask_members-returns-in_err-asked-clause-cut : goal.ask_members-returns-in_err-asked-clause-cut
ask_members-returns-in_err-asked-clause-cut g t c =
    on_error c.from_residual.result _
    (one_cut c.args.limits.now (of_member c.args.limits.now c.args.depth) c.args.members.now c.loop-member.member-index c.member-item.result
    c.args.asked c.loop-member.asked (g.F.Files.state c.args.files.now) (g.F.Files.state c.loop-member.files) (g.F.Files.state c.ask_member.new.files)
    c.loop-member-test.true c.member-item.is c.loop-member.invariant c.in_err-asked.ensures.cut)

pub ask_members-loop-member-preserved : goal.ask_members-loop-member-preserved
ask_members-loop-member-preserved g t c =
    one_more c.args.limits.now (of_member c.args.limits.now c.args.depth) c.args.members.now c.loop-member.member-index c.member-item.result
    c.args.asked c.loop-member.asked c.in_ok-asked.asked
    (g.F.Files.state c.args.files.now) (g.F.Files.state c.loop-member.files) (g.F.Files.state c.ask_member.new.files)
    c.loop-member-test.true c.member-item.is c.loop-member.invariant c.in_ok-asked.ensures.all

pub ask_members-returns-clause-all : goal.ask_members-returns-clause-all
ask_members-returns-clause-all g t c =
    all_asked c.args.limits.now (of_member c.args.limits.now c.args.depth) c.args.members.now c.loop-member.member-index
    c.args.asked c.loop-member.asked (g.F.Files.state c.args.files.now) (g.F.Files.state c.loop-member.files)
    c.loop-member-test.false c.loop-member.invariant

pub ask_subfolder-returns-then-depth-eq0-clause-all : goal.ask_subfolder-returns-then-depth-eq0-clause-all
ask_subfolder-returns-then-depth-eq0-clause-all g t c =
    no_subfolder c.args.limits.now c.args.path.now c.args.depth c.args.asked (g.F.Files.state c.args.files.now) c.if-depth-eq0.true

pub ask_subfolder-returns-in_err-asked-clause-cut : goal.ask_subfolder-returns-in_err-asked-clause-cut
ask_subfolder-returns-in_err-asked-clause-cut g t c =
    on_error c.from_residual.result _
    (subfolder_first c.args.limits.now c.args.path.now c.args.depth c.args.asked (g.F.Files.state c.args.files.now) (g.F.Files.state c.ask_once.new.files)
    c.if-depth-eq0.false c.in_err-asked.ensures.cut)

pub ask_subfolder-returns-in_err-members-clause-cut : goal.ask_subfolder-returns-in_err-members-clause-cut
ask_subfolder-returns-in_err-members-clause-cut g t c =
    on_error c.from_residual-in_err-members.result _
    (subfolder_between c.args.limits.now c.args.path.now c.args.depth c.args.asked c.in_ok-asked.asked
    (g.F.Files.state c.args.files.now) (g.F.Files.state c.ask_once.new.files) c.if-depth-eq0.false c.in_ok-asked.ensures.all)

pub ask_subfolder-returns-clause-all : goal.ask_subfolder-returns-clause-all
ask_subfolder-returns-clause-all g t c =
    subfolder_said c.args.limits.now c.args.path.now c.ask_members.result c.args.depth c.as_slice.result.now c.args.asked c.in_ok-asked.asked
    (g.F.Files.state c.args.files.now) (g.F.Files.state c.ask_once.new.files) (g.F.Files.state c.ask_members.new.files) c.if-depth-eq0.false
    (c.as_slice.ensures.value ∙ c.in_ok-members.ensures ∙ ap (members_of c.args.path.now) (c.entries_among.ensures
    ∙ ap (λ s. entries_among c.args.limits.now.folders s c.args.path.now) c.answers.ensures.answers))
    c.in_ok-asked.ensures.all c.ask_members.ensures.all

pub ask_subfolder-returns-clause-cut : goal.ask_subfolder-returns-clause-cut
ask_subfolder-returns-clause-cut g t c =
    subfolder_cut_said c.args.limits.now c.args.path.now c.ask_members.result c.args.depth c.as_slice.result.now c.args.asked c.in_ok-asked.asked
    (g.F.Files.state c.args.files.now) (g.F.Files.state c.ask_once.new.files) (g.F.Files.state c.ask_members.new.files) c.if-depth-eq0.false
    (c.as_slice.ensures.value ∙ c.in_ok-members.ensures ∙ ap (members_of c.args.path.now) (c.entries_among.ensures
    ∙ ap (λ s. entries_among c.args.limits.now.folders s c.args.path.now) c.answers.ensures.answers))
    c.in_ok-asked.ensures.all c.ask_members.ensures.cut
