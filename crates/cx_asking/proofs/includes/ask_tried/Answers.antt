use Rattle.cx_asking.proofs.IncludeLaws.{tried_asked, tried_begin, tried_cut, tried_end}
use Rattle.cx_asking.proofs.RestLaws.{on_err}
use Rattle.cx_asking.proofs.includes.ask_tried.Goals as goal

pub loop-paths-init : goal.loop-paths-init
loop-paths-init g c = tried_begin c.args.limits.now c.args.tried.now c.args.asked (g.F.Files.state c.args.files.now)

pub returns-in_err-asked-clause-cut : goal.returns-in_err-asked-clause-cut
returns-in_err-asked-clause-cut g c =
    on_err c.from_residual.result
    (tried_cut c.args.limits.now c.args.tried.now _ _ _ _ c.loop-paths.paths-index c.loop-paths.invariant c.paths-item.result c.as_slice.result.now
    c.loop-paths-test.true c.paths-item.is c.as_slice.ensures.value _ c.in_err-asked.ensures.cut)

pub loop-paths-preserved : goal.loop-paths-preserved
loop-paths-preserved g c =
    tried_asked c.args.limits.now c.args.tried.now _ _ _ _ c.loop-paths.paths-index c.loop-paths.invariant c.paths-item.result c.as_slice.result.now
    c.loop-paths-test.true c.paths-item.is c.as_slice.ensures.value c.in_ok-asked.asked _ c.in_ok-asked.ensures.all

pub returns-clause-all : goal.returns-clause-all
returns-clause-all g c = tried_end c.args.limits.now c.args.tried.now _ _ _ _ c.loop-paths.paths-index c.loop-paths.invariant c.loop-paths-test.false
