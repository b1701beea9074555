use Rattle.std.proofs.Common.{ap, ◌∙◌}
use Rattle.cx_asking.specs.Asking.{text_of}
use Rattle.cx_asking.specs.Shapes.Steps.{lists_of}
use Rattle.cx_asking.proofs.IncludeLaws.{all_tried_by, none_tried_by, tried_next}
use Rattle.cx_asking.proofs.includes.tried_by.Goals as goal

pub returns-in_default : goal.returns-in_default
returns-in_default c =
    ap lists_of c.new-all.ensures.items
    ∙ none_tried_by (text_of c.args.shelf.now.files) c.args.folders.now c.args.file.now c.in_default.ensures

pub loop-include-preserved : goal.loop-include-preserved
loop-include-preserved c =
    tried_next c.args.folders.now c.args.file.now c.as_slice-include-items.result.now c.loop-include.include-index c.include-item.result
    c.loop-include.all.items c.push.new.self.items c.in_ok-tried.field-0 c.loop-include-test.true c.include-item.is c.loop-include.invariant
    c.in_ok-tried.ensures c.in_ok-push.ensures.items

pub returns : goal.returns
returns c =
    all_tried_by (text_of c.args.shelf.now.files) c.args.folders.now c.args.file.now c.in-Some.lexed.now.pieces c.as_slice-include-items.result.now
    (lists_of c.loop-include.all.items) c.loop-include.include-index c.in-Some.ensures
    (c.as_slice-include-items.ensures ∙ c.in_ok-includes.ensures) c.loop-include-test.false c.loop-include.invariant
