use Rattle.std.proofs.Common.{ap, sym, ◌∙◌, option_map, bytes_eq}
use Rattle.std.specs.List.{filter_map, find}
use Rattle.indexmap.specs.IndexSet.{insert_all}
use Rattle.cx_asking.specs.Asking.{text_of}
use Rattle.cx_asking.specs.Includes.{is_taken, tried_by}
use Rattle.cx_asking.specs.Shapes.Steps.{lists_of}
use Rattle.cx_asking.proofs.IncludeLaws.{file_asked_cut, file_cut, follows_begin, follows_cut, follows_end, follows_next}
use Rattle.cx_asking.proofs.RestLaws.{on_err}
use Rattle.cx_asking.proofs.includes.ask_includes.Goals as goal

pub loop-file-init : goal.loop-file-init
loop-file-init g c =
    follows_begin c.args.limits.now c.args.folders.now c.args.units c.args.asked (g.F.Files.state c.args.files.now) c.requires.known

pub returns-in_err-tried-clause-cut : goal.returns-in_err-tried-clause-cut
returns-in_err-tried-clause-cut g c =
    on_err c.from_residual.result
    (follows_cut c.args.limits.now c.args.folders.now c.args.units _ _ _ _ c.loop-file.followed c.loop-file.found c.loop-file.invariant)

pub returns-in_err-asked-clause-cut : goal.returns-in_err-asked-clause-cut
returns-in_err-asked-clause-cut g c =
    on_err c.from_residual-in_err-asked.result
    (file_cut c.args.limits.now c.args.folders.now c.args.units _ _ _ _ c.loop-file.followed c.loop-file.found c.loop-file.invariant
    c.requires.apart (option_map (λ path. path.now) c.get.result) c.get.ensures.path
    c.in-Some.file.now (lists_of c.as_slice.result.now) (ap (option_map (λ path. path.now)) c.in-Some.is)
    (ap lists_of c.as_slice.ensures.value ∙ c.in_ok-tried.ensures
    ∙ ap (λ files. tried_by (text_of files) c.args.folders.now c.in-Some.file.now) c.shelf.ensures)
    _ c.in_err-asked.ensures.cut)

pub returns-in_err-found-clause-cut : goal.returns-in_err-found-clause-cut
returns-in_err-found-clause-cut g c =
    on_err c.from_residual-in_err-found.result
    (file_asked_cut c.args.limits.now c.args.folders.now c.args.units _ _ _ _ c.loop-file.followed c.loop-file.found c.loop-file.invariant
    c.requires.apart (option_map (λ path. path.now) c.get.result) c.get.ensures.path
    c.in-Some.file.now (lists_of c.as_slice.result.now) (ap (option_map (λ path. path.now)) c.in-Some.is)
    (ap lists_of c.as_slice.ensures.value ∙ c.in_ok-tried.ensures
    ∙ ap (λ files. tried_by (text_of files) c.args.folders.now c.in-Some.file.now) c.shelf.ensures)
    c.in_ok-asked.asked _ c.in_ok-asked.ensures.all)

pub loop-file-preserved : goal.loop-file-preserved
loop-file-preserved g c =
    follows_next c.args.limits.now c.args.folders.now c.args.units _ _ _ _ c.loop-file.followed c.loop-file.found c.loop-file.invariant
    c.requires.apart (option_map (λ path. path.now) c.get.result) c.get.ensures.path
    c.in-Some.file.now (lists_of c.as_slice.result.now) (ap (option_map (λ path. path.now)) c.in-Some.is)
    (ap lists_of c.as_slice.ensures.value ∙ c.in_ok-tried.ensures
    ∙ ap (λ files. tried_by (text_of files) c.args.folders.now c.in-Some.file.now) c.shelf.ensures)
    c.in_ok-asked.asked _ c.in_ok-asked.ensures.all c.in_ok-found.found
    (c.in_ok-found.ensures
    ∙ ap (λ s. insert_all bytes_eq c.loop-file.found (filter_map (find (is_taken s)) (lists_of c.as_slice-in-Some.result.now))) c.answers.ensures.answers
    ∙ ap (λ l. insert_all bytes_eq c.loop-file.found (filter_map (find (is_taken c.in_ok-asked.asked.seen)) (lists_of l)))
    (c.as_slice-in-Some.ensures.value ∙ sym c.as_slice.ensures.value))

pub returns-clause-all : goal.returns-clause-all
returns-clause-all g c =
    follows_end c.args.limits.now c.args.folders.now c.args.units _ _ _ _ c.loop-file.followed c.loop-file.found c.loop-file.invariant
    c.requires.apart (option_map (λ path. path.now) c.get.result) c.get.ensures.path (ap (option_map (λ path. path.now)) c.in_default.is)
