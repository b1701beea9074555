use Rattle.std.proofs.Common.{ap, sym, ◌∙◌}
use Rattle.std.specs.Option.{option_copied}
use Rattle.cx_asking.specs.Wishes.{look_up}
use Rattle.cx_asking.proofs.ListLaws.{list_cut, list_read, list_refused, lists_begin, lists_cut, lists_end, short_answer}
use Rattle.cx_asking.proofs.RestLaws.{on_err}
use Rattle.cx_asking.proofs.lists.ask_lists.Goals as goal

pub loop-list-init : goal.loop-list-init
loop-list-init g c = lists_begin c.args.limits.now c.args.lists.now c.args.asked (g.F.Files.state c.args.files.now)

pub returns-in_err-path-clause-cut : goal.returns-in_err-path-clause-cut
returns-in_err-path-clause-cut g c =
    on_err c.from_residual.result (lists_cut c.args.limits.now c.args.lists.now _ _ _ _ c.loop-list.list-index c.loop-list.invariant)

pub returns-in_err-asked-clause-cut : goal.returns-in_err-asked-clause-cut
returns-in_err-asked-clause-cut g c =
    on_err c.from_residual-in_err-asked.result
    (list_cut c.args.limits.now c.args.lists.now _ _ _ _ c.loop-list.list-index c.loop-list.invariant c.list-item.result c.in_ok-path.path
    c.loop-list-test.true c.list-item.is c.in_ok-path.ensures.leads_there _ c.in_err-asked.ensures.cut)

pub fault_of-requires : goal.fault_of-requires
fault_of-requires g c = short_answer c.answers.result.now c.answers.ensures.short c.in_ok-path.path (option_copied c.get.result) c.get.ensures

pub returns-then-is_some-clause-all : goal.returns-then-is_some-clause-all
returns-then-is_some-clause-all g c =
    list_refused c.args.limits.now c.args.lists.now _ _ _ _ c.loop-list.list-index c.loop-list.invariant c.list-item.result c.in_ok-path.path
    c.loop-list-test.true c.list-item.is c.in_ok-path.ensures.leads_there c.in_ok-asked.asked _ c.in_ok-asked.ensures.all
    (option_copied c.get.result) c.fault_of.result (c.get.ensures ∙ ap (λ s. look_up s c.in_ok-path.path) c.answers.ensures.answers)
    c.fault_of.ensures (sym c.is_some.ensures ∙ c.if-is_some.true)

pub loop-list-preserved : goal.loop-list-preserved
loop-list-preserved g c =
    list_read c.args.limits.now c.args.lists.now _ _ _ _ c.loop-list.list-index c.loop-list.invariant c.list-item.result c.in_ok-path.path
    c.loop-list-test.true c.list-item.is c.in_ok-path.ensures.leads_there c.in_ok-asked.asked _ c.in_ok-asked.ensures.all
    (option_copied c.get.result) c.fault_of.result (c.get.ensures ∙ ap (λ s. look_up s c.in_ok-path.path) c.answers.ensures.answers)
    c.fault_of.ensures (sym c.is_some.ensures ∙ c.if-is_some.false)

pub returns-clause-all : goal.returns-clause-all
returns-clause-all g c = lists_end c.args.limits.now c.args.lists.now _ _ _ _ c.loop-list.list-index c.loop-list.invariant c.loop-list-test.false
