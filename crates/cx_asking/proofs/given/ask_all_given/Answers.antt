use Rattle.cx_asking.proofs.AskLaws.{on_error}
use Rattle.cx_asking.proofs.WalkLaws.{all_asked, none_asked, of_given, one_cut, one_more}
use Rattle.cx_asking.proofs.given.ask_all_given.Goals as goal

pub loop-path-init : goal.loop-path-init
loop-path-init g c =
    none_asked c.args.limits.now (of_given c.args.limits.now) c.args.paths.now c.args.asked (g.F.Files.state c.args.files.now)

pub returns-in_err-asked-clause-cut : goal.returns-in_err-asked-clause-cut
returns-in_err-asked-clause-cut g c =
    on_error c.from_residual.result _
    (one_cut c.args.limits.now (of_given c.args.limits.now) c.args.paths.now c.loop-path.path-index c.path-item.result
    c.args.asked c.loop-path.asked (g.F.Files.state c.args.files.now) (g.F.Files.state c.loop-path.files) (g.F.Files.state c.ask_given.new.files)
    c.loop-path-test.true c.path-item.is c.loop-path.invariant c.in_err-asked.ensures.cut)

pub loop-path-preserved : goal.loop-path-preserved
loop-path-preserved g c =
    one_more c.args.limits.now (of_given c.args.limits.now) c.args.paths.now c.loop-path.path-index c.path-item.result
    c.args.asked c.loop-path.asked c.in_ok-asked.asked
    (g.F.Files.state c.args.files.now) (g.F.Files.state c.loop-path.files) (g.F.Files.state c.ask_given.new.files)
    c.loop-path-test.true c.path-item.is c.loop-path.invariant c.in_ok-asked.ensures.all

pub returns-clause-all : goal.returns-clause-all
returns-clause-all g c =
    all_asked c.args.limits.now (of_given c.args.limits.now) c.args.paths.now c.loop-path.path-index
    c.args.asked c.loop-path.asked (g.F.Files.state c.args.files.now) (g.F.Files.state c.loop-path.files)
    c.loop-path-test.false c.loop-path.invariant
