use Rattle.std.proofs.Common.{All, IsTrue, [], ap, bytes_eq, flat_map, subst, sym, ◌∙◌, map}
use Rattle.std.specs.List.{IsDistinct}
use Rattle.cx_base.specs.Simple.{simple_path}
use Rattle.cx_asking.specs.Shapes.Asks.{Asks, IsCut, is_known}
use Rattle.cx_asking.specs.Shapes.Steps.{with_units}
use Rattle.cx_asking.specs.Wishes.{given_paths, given_wishes}
use Rattle.cx_asking.specs.Shapes.Whole.{sources_wanted}
use Rattle.cx_asking.proofs.RestLaws.{cut_here, on_err}
use Rattle.cx_asking.proofs.SourceLaws.{sources_cut, sources_cut_behind, sources_cut_said, sources_said}
use Rattle.cx_asking.proofs.UnitLaws.{units_apart, units_known}
use Rattle.cx_asking.proofs.WalkLaws.{all_of, of_given}
use Rattle.cx_asking.proofs.asking.ask_sources.Goals as goal

pub returns-in_err-paths-clause-cut : goal.returns-in_err-paths-clause-cut
returns-in_err-paths-clause-cut g c =
    on_err c.from_residual.result
    (cut_here c.args.limits.now (sources_wanted c.args.limits.now c.args.options.now) c.args.asked (g.F.Files.state c.args.files.now))

pub returns-in_err-asked-clause-cut : goal.returns-in_err-asked-clause-cut
returns-in_err-asked-clause-cut g c =
    on_err c.from_residual-in_err-asked.result
    (sources_cut c.args.limits.now c.args.options.now c.args.asked c.requires.read c.in_ok-paths.paths.items
    (c.in_ok-paths.ensures ∙ ap (λ s. map simple_path (given_paths s c.args.options.now)) c.answers.ensures.answers)
    (g.F.Files.state c.args.files.now) (g.F.Files.state c.ask_all_given.new.files)
    (subst (λ l. IsCut c.args.limits.now (all_of (of_given c.args.limits.now) l) c.args.asked
    (g.F.Files.state c.args.files.now) (g.F.Files.state c.ask_all_given.new.files)) c.as_slice.ensures.value c.in_err-asked.ensures.cut))

pub returns-in_err-units-clause-cut : goal.returns-in_err-units-clause-cut
returns-in_err-units-clause-cut g c =
    on_err c.from_residual-in_err-units.result
    (sources_cut_behind c.args.limits.now c.args.options.now c.args.asked c.requires.read c.in_ok-paths.paths.items
    (c.in_ok-paths.ensures ∙ ap (λ s. map simple_path (given_paths s c.args.options.now)) c.answers.ensures.answers)
    c.in_ok-asked.asked (g.F.Files.state c.args.files.now) (g.F.Files.state c.ask_all_given.new.files)
    (subst (λ l. Asks c.args.limits.now (all_of (of_given c.args.limits.now) l) c.args.asked c.in_ok-asked.asked
    (g.F.Files.state c.args.files.now) (g.F.Files.state c.ask_all_given.new.files)) c.as_slice.ensures.value c.in_ok-asked.ensures.all))

pub ask_includes-requires-clause-known : goal.ask_includes-requires-clause-known
ask_includes-requires-clause-known g c =
    subst (λ units. All (λ path. IsTrue (is_known c.in_ok-asked.asked.seen path)) units)
    (sym (c.in_ok-units.ensures ∙ ap (λ s. with_units c.args.limits.now.folders s [] (flat_map (given_wishes c.args.limits.now s) c.as_slice-2.result.now)) c.answers-2.ensures.answers))
    (units_known c.args.limits.now.folders c.in_ok-asked.asked.seen (flat_map (given_wishes c.args.limits.now c.in_ok-asked.asked.seen) c.as_slice-2.result.now))

pub ask_includes-requires-clause-apart : goal.ask_includes-requires-clause-apart
ask_includes-requires-clause-apart g c =
    subst (IsDistinct bytes_eq) (sym c.in_ok-units.ensures)
    (units_apart c.args.limits.now.folders c.answers-2.result.now (flat_map (given_wishes c.args.limits.now c.answers-2.result.now) c.as_slice-2.result.now))

pub returns-clause-all : goal.returns-clause-all
returns-clause-all g c =
    sources_said c.args.limits.now c.args.options.now c.args.asked c.requires.read c.in_ok-paths.paths.items
    (c.in_ok-paths.ensures ∙ ap (λ s. map simple_path (given_paths s c.args.options.now)) c.answers.ensures.answers)
    c.in_ok-asked.asked (g.F.Files.state c.args.files.now) (g.F.Files.state c.ask_all_given.new.files)
    (subst (λ l. Asks c.args.limits.now (all_of (of_given c.args.limits.now) l) c.args.asked c.in_ok-asked.asked
    (g.F.Files.state c.args.files.now) (g.F.Files.state c.ask_all_given.new.files)) c.as_slice.ensures.value c.in_ok-asked.ensures.all)
    c.answers-2.result.now c.answers-2.ensures.answers c.in_ok-units.units
    (c.in_ok-units.ensures ∙ ap (λ ps. with_units c.args.limits.now.folders c.answers-2.result.now [] (flat_map (given_wishes c.args.limits.now c.answers-2.result.now) ps))
    c.as_slice-2.ensures.value)
    c.as_slice-folders.result.now c.as_slice-folders.ensures c.ask_includes.result (g.F.Files.state c.ask_includes.new.files) c.ask_includes.ensures.all

pub returns-clause-cut : goal.returns-clause-cut
returns-clause-cut g c =
    sources_cut_said c.args.limits.now c.args.options.now c.args.asked c.requires.read c.in_ok-paths.paths.items
    (c.in_ok-paths.ensures ∙ ap (λ s. map simple_path (given_paths s c.args.options.now)) c.answers.ensures.answers)
    c.in_ok-asked.asked (g.F.Files.state c.args.files.now) (g.F.Files.state c.ask_all_given.new.files)
    (subst (λ l. Asks c.args.limits.now (all_of (of_given c.args.limits.now) l) c.args.asked c.in_ok-asked.asked
    (g.F.Files.state c.args.files.now) (g.F.Files.state c.ask_all_given.new.files)) c.as_slice.ensures.value c.in_ok-asked.ensures.all)
    c.answers-2.result.now c.answers-2.ensures.answers c.in_ok-units.units
    (c.in_ok-units.ensures ∙ ap (λ ps. with_units c.args.limits.now.folders c.answers-2.result.now [] (flat_map (given_wishes c.args.limits.now c.answers-2.result.now) ps))
    c.as_slice-2.ensures.value)
    c.as_slice-folders.result.now c.as_slice-folders.ensures c.ask_includes.result (g.F.Files.state c.ask_includes.new.files) c.ask_includes.ensures.cut
