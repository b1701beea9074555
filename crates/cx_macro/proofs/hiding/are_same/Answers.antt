use Rattle.std.proofs.Common.{◌∙◌, ap₂, arith, bytes_eq, not}
use Rattle.cx_macro.proofs.SetLaws.{same_more}
use Rattle.cx_macro.proofs.hiding.are_same.Goals as goal

pub loop-index-preserved : goal.loop-index-preserved
loop-index-preserved c =
    same_more c.args.names.now c.args.others.now c.loop-index.index c.index-names-index.result c.index-others-index.result c.ne.result c.loop-index.invariant
    (omega arith) (omega arith) c.index-names-index.is c.index-others-index.is
    (c.ne.ensures ∙ ap₂ (λ a b. not (bytes_eq a b)) c.as_slice.ensures c.as_slice-in-loop-index.ensures) c.if-ne.false
