use Rattle.std.proofs.Common.{true, false}
use Rattle.std.proofs.lemmas.Result.{IfOk-weaker, on_err_weaker}
use Rattle.cx_asking.specs.Shapes.Asks.{Asks}
use Rattle.cx_asking.specs.Shapes.Whole.{all_wanted, nothing, sources_wanted}
use Rattle.cx_asking.proofs.RestLaws.{on_err}
use Rattle.cx_asking.proofs.WholeLaws.{cut_behind_lists, cut_from_start, from_start, lists_alone, refused_told, then_sources, then_sources_cut}
use Rattle.cx_asking.proofs.asking.ask_all.Goals as goal

pub returns-in_err-asked-clause-cut : goal.returns-in_err-asked-clause-cut
returns-in_err-asked-clause-cut g c =
    on_err c.from_residual.result
    (cut_from_start c.args.limits.now c.args.options.now c.new-asked.result c.as_slice-lists.result.now c.new-asked.ensures c.as_slice-lists.ensures
    _ _ c.in_err-asked.ensures.cut)

pub returns-in_err-refused_list-clause-cut : goal.returns-in_err-refused_list-clause-cut
returns-in_err-refused_list-clause-cut g c =
    on_err c.from_residual-in_err-refused_list.result
    (cut_behind_lists c.args.limits.now c.args.options.now c.in_ok-asked.asked (g.F.Files.state c.args.files.now) _
    (from_start c.args.limits.now c.args.options.now c.new-asked.result c.as_slice-lists.result.now c.new-asked.ensures c.as_slice-lists.ensures
    c.in_ok-asked.asked _ _ c.in_ok-asked.ensures.all))

pub returns-then-is_some-clause-all : goal.returns-then-is_some-clause-all
returns-then-is_some-clause-all g c =
    lists_alone c.args.limits.now c.args.options.now c.in_ok-asked.asked (g.F.Files.state c.args.files.now) (g.F.Files.state c.ask_lists.new.files)
    (from_start c.args.limits.now c.args.options.now c.new-asked.result c.as_slice-lists.result.now c.new-asked.ensures c.as_slice-lists.ensures
    c.in_ok-asked.asked _ _ c.in_ok-asked.ensures.all)
    (refused_told c.args.options.now c.in_ok-refused_list.field-0 c.in_ok-asked.asked.seen c.answers.result.now c.as_slice-lists.result.now true c.is_some.result
    c.in_ok-refused_list.ensures c.answers.ensures.answers c.as_slice-lists.ensures c.is_some.ensures c.if-is_some.true)

pub returns-clause-all : goal.returns-clause-all
returns-clause-all g c =
    IfOk-weaker c.ask_sources.result
    (λ a. Asks c.args.limits.now (sources_wanted c.args.limits.now c.args.options.now) c.in_ok-asked.asked a
    (g.F.Files.state c.ask_lists.new.files) (g.F.Files.state c.ask_sources.new.files))
    (λ a. Asks c.args.limits.now (all_wanted c.args.limits.now c.args.options.now) nothing a
    (g.F.Files.state c.args.files.now) (g.F.Files.state c.ask_sources.new.files))
    (λ a q. then_sources c.args.limits.now c.args.options.now c.in_ok-asked.asked (g.F.Files.state c.args.files.now) (g.F.Files.state c.ask_lists.new.files)
    (from_start c.args.limits.now c.args.options.now c.new-asked.result c.as_slice-lists.result.now c.new-asked.ensures c.as_slice-lists.ensures
    c.in_ok-asked.asked _ _ c.in_ok-asked.ensures.all)
    (refused_told c.args.options.now c.in_ok-refused_list.field-0 c.in_ok-asked.asked.seen c.answers.result.now c.as_slice-lists.result.now false c.is_some.result
    c.in_ok-refused_list.ensures c.answers.ensures.answers c.as_slice-lists.ensures c.is_some.ensures c.if-is_some.false)
    (g.F.Files.state c.ask_sources.new.files) a q)
    c.ask_sources.ensures.all

pub returns-clause-cut : goal.returns-clause-cut
returns-clause-cut g c =
    on_err_weaker c.ask_sources.result
    (λ q. then_sources_cut c.args.limits.now c.args.options.now c.in_ok-asked.asked (g.F.Files.state c.args.files.now) (g.F.Files.state c.ask_lists.new.files)
    (from_start c.args.limits.now c.args.options.now c.new-asked.result c.as_slice-lists.result.now c.new-asked.ensures c.as_slice-lists.ensures
    c.in_ok-asked.asked _ _ c.in_ok-asked.ensures.all)
    (refused_told c.args.options.now c.in_ok-refused_list.field-0 c.in_ok-asked.asked.seen c.answers.result.now c.as_slice-lists.result.now false c.is_some.result
    c.in_ok-refused_list.ensures c.answers.ensures.answers c.as_slice-lists.ensures c.is_some.ensures c.if-is_some.false)
    (g.F.Files.state c.ask_sources.new.files) q)
    c.ask_sources.ensures.cut
