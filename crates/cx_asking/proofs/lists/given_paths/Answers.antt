use Rattle.std.proofs.Common.{ap, ◌∙◌, ◌++◌, map}
use Rattle.std.specs.Option.{option_copied}
use Rattle.cx_base.specs.Simple.{simple_path}
use Rattle.cx_asking.proofs.ListLaws.{all_given, named_as, next_list, sound_list}
use Rattle.cx_asking.proofs.lists.given_paths.Goals as goal

pub push_answered-requires : goal.push_answered-requires
push_answered-requires c =
    sound_list c.args.answers.now c.as_slice-list-items.result.now c.loop-list.list-index c.list-item.result c.in_ok-path.path (option_copied c.get.result)
    c.loop-list-test.true c.list-item.is (cc) c.in_ok-path.ensures.leads_there c.get.ensures

pub loop-list-preserved : goal.loop-list-preserved
loop-list-preserved c =
    next_list c.args.answers.now c.loop-path.paths.items c.loop-list.paths.items c.push_answered.new.paths.items c.as_slice-list-items.result.now
    c.loop-list.list-index c.list-item.result c.loop-list-test.true c.list-item.is c.loop-list.invariant
    (c.in_ok-push_answered.ensures
    ∙ ap (λ ps. c.loop-list.paths.items ++ map simple_path ps)
    (named_as c.args.answers.now c.list-item.result c.in_ok-path.path (option_copied c.get.result) c.in_ok-path.ensures.leads_there c.get.ensures))

pub returns : goal.returns
returns c =
    all_given c.args.answers.now c.args.options.now c.as_slice-path-items.result.now c.as_slice-list-items.result.now
    c.loop-path.paths.items c.loop-list.paths.items c.loop-path.path-index c.loop-list.list-index
    c.as_slice-path-items.ensures c.as_slice-list-items.ensures c.loop-path-test.false c.loop-list-test.false
    c.loop-path.invariant c.loop-list.invariant
