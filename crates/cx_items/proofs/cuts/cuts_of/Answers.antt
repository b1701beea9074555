use Rattle.std.proofs.Common.{ap, ◌∙◌, reverse}
use Rattle.std.proofs.lemmas.Result.{IfOk-weaker}
use Rattle.cx_items.specs.Shapes.Ends.{entries_of}
use Rattle.cx_items.proofs.CutLaws.{cut_so}
use Rattle.cx_items.proofs.cuts.cuts_of.Goals as goal

pub returns : goal.returns
returns c parts h =
    IfOk-weaker c.walk.result _ _
    (λ cuts w. cut_so c.args.lexemes.now parts (reverse c.in_ok-entries.entries.items) cuts.starts cuts.finished h
    (c.in_ok-entries.ensures ∙ ap entries_of c.in_ok-parts.ensures) w) c.walk.ensures
