use Rattle.std.proofs.Common.{ap, ◌∙◌, option_map}
use Rattle.std.specs.List.{find}
use Rattle.cx_asking.specs.Includes.{is_taken}
use Rattle.cx_asking.proofs.IncludeLaws.{takes_none, takes_one, taking_begins, taking_ends}
use Rattle.cx_asking.proofs.includes.with_taken.Goals as goal

pub loop-paths-init : goal.loop-paths-init
loop-paths-init c = taking_begins c.args.answers.now c.args.found c.args.tried.now

pub loop-paths-preserved-in_default : goal.loop-paths-preserved-in_default
loop-paths-preserved-in_default c =
    takes_none c.args.answers.now _ c.loop-paths.found c.args.tried.now c.loop-paths.paths-index c.loop-paths.invariant
    c.paths-item.result c.loop-paths-test.true c.paths-item.is (option_map (λ path. path.now) c.taken.result)
    (c.taken.ensures ∙ ap (find (is_taken c.args.answers.now)) c.as_slice.ensures.value) (ap (option_map (λ path. path.now)) c.in_default.is)

pub loop-paths-preserved : goal.loop-paths-preserved
loop-paths-preserved c =
    takes_one c.args.answers.now _ c.loop-paths.found c.args.tried.now c.loop-paths.paths-index c.loop-paths.invariant
    c.paths-item.result c.loop-paths-test.true c.paths-item.is (option_map (λ path. path.now) c.taken.result) c.in-Some.path.now c.in_ok-found.found
    (c.taken.ensures ∙ ap (find (is_taken c.args.answers.now)) c.as_slice.ensures.value) (ap (option_map (λ path. path.now)) c.in-Some.is)
    c.in_ok-found.ensures

pub returns : goal.returns
returns c = taking_ends c.args.answers.now _ c.loop-paths.found c.args.tried.now c.loop-paths.paths-index c.loop-paths.invariant c.loop-paths-test.false
