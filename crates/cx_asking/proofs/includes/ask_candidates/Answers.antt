use Rattle.std.proofs.Common.{ap, ◌∙◌}
use Rattle.std.specs.Option.{option_copied}
use Rattle.cx_asking.specs.Wishes.{look_up}
use Rattle.cx_asking.proofs.IncludeLaws.{path_cut, path_passed, path_taken, paths_begin, paths_end}
use Rattle.cx_asking.proofs.RestLaws.{on_err}
use Rattle.cx_asking.proofs.includes.ask_candidates.Goals as goal

pub loop-path-init : goal.loop-path-init
loop-path-init g c = paths_begin c.args.limits.now c.args.paths.now c.args.asked (g.F.Files.state c.args.files.now)

pub returns-in_err-asked-clause-cut : goal.returns-in_err-asked-clause-cut
returns-in_err-asked-clause-cut g c =
    on_err c.from_residual.result
    (path_cut c.args.limits.now c.args.paths.now _ _ _ _ c.loop-path.path-index c.loop-path.invariant c.path-item.result
    c.loop-path-test.true c.path-item.is _ c.in_err-asked.ensures.cut)

pub returns-then-is_there-clause-all : goal.returns-then-is_there-clause-all
returns-then-is_there-clause-all g c =
    path_taken c.args.limits.now c.args.paths.now _ _ _ _ c.loop-path.path-index c.loop-path.invariant c.path-item.result
    c.loop-path-test.true c.path-item.is c.in_ok-asked.asked _ c.in_ok-asked.ensures.all (option_copied c.get.result) c.is_there.result
    (c.get.ensures ∙ ap (λ s. look_up s c.path-item.result) c.answers.ensures.answers) c.is_there.ensures c.if-is_there.true

pub loop-path-preserved : goal.loop-path-preserved
loop-path-preserved g c =
    path_passed c.args.limits.now c.args.paths.now _ _ _ _ c.loop-path.path-index c.loop-path.invariant c.path-item.result
    c.loop-path-test.true c.path-item.is c.in_ok-asked.asked _ c.in_ok-asked.ensures.all (option_copied c.get.result) c.is_there.result
    (c.get.ensures ∙ ap (λ s. look_up s c.path-item.result) c.answers.ensures.answers) c.is_there.ensures c.if-is_there.false

pub returns-clause-all : goal.returns-clause-all
returns-clause-all g c = paths_end c.args.limits.now c.args.paths.now _ _ _ _ c.loop-path.path-index c.loop-path.invariant c.loop-path-test.false
