use Rattle.std.proofs.Common.{Some, None}
use Rattle.std.specs.Option.{option_copied}
use Rattle.cx_asking.proofs.ListLaws.{answered, first_fault, next_fault, no_fault, short_answer}
use Rattle.cx_asking.proofs.lists.refused_list.Goals as goal

pub fault_of-requires : goal.fault_of-requires
fault_of-requires c = short_answer c.args.answers.now c.requires c.in_ok-path.path (option_copied c.get.result) c.get.ensures

pub returns-in-Some : goal.returns-in-Some
returns-in-Some c =
    first_fault c.args.answers.now c.args.lists.now c.loop-list.list-index c.list-item.result c.in-Some.fault c.in_ok-copy.field-0
    c.loop-list-test.true c.list-item.is c.loop-list.invariant
    (answered c.args.answers.now c.list-item.result c.in_ok-path.path (option_copied c.get.result) c.fault_of.result (Some c.in-Some.fault)
    c.in_ok-path.ensures.leads_there c.get.ensures c.fault_of.ensures c.in-Some.is)
    c.in_ok-copy.ensures

pub loop-list-preserved : goal.loop-list-preserved
loop-list-preserved c =
    next_fault c.args.answers.now c.args.lists.now c.loop-list.list-index c.list-item.result c.loop-list-test.true c.list-item.is c.loop-list.invariant
    (answered c.args.answers.now c.list-item.result c.in_ok-path.path (option_copied c.get.result) c.fault_of.result None
    c.in_ok-path.ensures.leads_there c.get.ensures c.fault_of.ensures c.in_default.is)

pub returns : goal.returns
returns c = no_fault c.args.answers.now c.args.lists.now c.loop-list.list-index c.loop-list-test.false c.loop-list.invariant
