use Rattle.std.proofs.Common.{ap, subst, sym, ◌∙◌}
use Rattle.std.specs.Str.{IsUtf8}
use Rattle.std.proofs.lemmas.Result.{IfOk-weaker}
use Rattle.cx_shelf.specs.Searches.{candidates}
use Rattle.cx_shelf.specs.Shapes.Searching.{first_among}
use Rattle.cx_shelf.proofs.SearchLaws.{computed_none, first_candidate, no_text_none}
use Rattle.cx_shelf.proofs.search.found.Goals as goal

pub returns-then-target : goal.returns-then-target
returns-then-target c = computed_none c.args.shelf.now c.args.includer.now c.args.target.now c.if-target.true

pub returns-in_default : goal.returns-in_default
returns-in_default c =
    no_text_none c.args.shelf.now c.args.includer.now c.args.target.now
    (λ (u : IsUtf8 c.args.target.now.name.name). c.in_default.ensures.cases.0 (subst IsUtf8 (sym c.as_slice.ensures) u))

pub returns : goal.returns
returns c =
    IfOk-weaker c.found_by_name.result _ _
    (λ r h. first_candidate c.paths.result.now c.args.shelf.now c.args.includer.now c.args.target.now r c.paths.ensures c.if-target.false
    (subst IsUtf8 c.as_slice.ensures c.in-Ok.ensures.cases.1)
    (h ∙ ap (λ folders. first_among c.paths.result.now (candidates folders c.args.includer.now c.args.target.now.name))
    (c.as_slice-2.ensures ∙ ap (λ s. s.folders) c.shelf.ensures)))
    c.found_by_name.ensures
