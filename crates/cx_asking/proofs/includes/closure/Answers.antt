use Rattle.std.proofs.Common.{ap, sym, ◌∙◌, [], ◌∷◌, option_map, subst, bytes_eq}
use Rattle.indexmap.specs.IndexSet.{insert_key}
use Rattle.cx_asking.specs.Asking.{text_of}
use Rattle.cx_asking.specs.Includes.{included, tried_by}
use Rattle.cx_asking.specs.Shapes.Steps.{lists_of}
use Rattle.cx_asking.proofs.IncludeLaws.{closure_begins, closure_ends, closure_next}
use Rattle.cx_asking.proofs.RoundLaws.{AreFound}
use Rattle.cx_asking.proofs.includes.closure.Goals as goal

pub loop-file-init : goal.loop-file-init
loop-file-init c =
    subst (AreFound (included (text_of c.args.shelf.now.files) c.args.shelf.now.folders c.args.answers.now) (c.args.unit.now ∷ []) 0)
    (sym (c.in_ok-found.ensures ∙ ap (λ s. insert_key bytes_eq s c.args.unit.now) c.new.ensures)) (closure_begins (text_of c.args.shelf.now.files) c.args.shelf.now.folders c.args.answers.now c.args.unit.now)

pub loop-file-preserved : goal.loop-file-preserved
loop-file-preserved c =
    closure_next (text_of c.args.shelf.now.files) c.args.shelf.now.folders c.args.answers.now (c.args.unit.now ∷ []) c.loop-file.followed c.loop-file.found
    c.in_ok-found-2.found c.in-Some.file.now (lists_of c.as_slice.result.now) (option_map (λ path. path.now) c.get.result)
    c.loop-file.invariant c.get.ensures.path (ap (option_map (λ path. path.now)) c.in-Some.is)
    (ap lists_of c.as_slice.ensures.value ∙ c.in_ok-tried.ensures
    ∙ ap (λ folders. tried_by (text_of c.args.shelf.now.files) folders c.in-Some.file.now) (cc))
    c.in_ok-found-2.ensures

pub returns : goal.returns
returns c =
    c.into_vec.ensures
    ∙ closure_ends (text_of c.args.shelf.now.files) c.args.shelf.now.folders c.args.answers.now c.args.unit.now c.loop-file.followed c.loop-file.found
    (option_map (λ path. path.now) c.get.result) c.loop-file.invariant c.get.ensures.path (ap (option_map (λ path. path.now)) c.in_default.is)
