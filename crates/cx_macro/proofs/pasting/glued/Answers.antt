use Rattle.cx_macro.proofs.PastingLaws.{gluing_both, gluing_done, gluing_done_with_paste, gluing_none, gluing_tokens}
use Rattle.cx_macro.proofs.pasting.glued.Goals as goal

pub loop-substitute-preserved-in-Operand : goal.loop-substitute-preserved-in-Operand
loop-substitute-preserved-in-Operand c =
    gluing_tokens _ _ _ _ _ _ _ _ c.loop-substitute.invariant c.in-Some.ensures c.in-Operand.is c.in_ok-append-in-Operand.ensures.items

pub returns-in-None : goal.returns-in-None
returns-in-None c =
    gluing_none _ _ _ _ _ _ _ _ _ _ _ _ c.from_vec-substitutes.ensures c.loop-substitute.invariant c.in-Some.ensures c.in-PasteOperator.is c.in-Some-pop.ensures
    c.in_ok-right-in-PasteOperator.ensures c.in_ok-join_sides-in-PasteOperator.ensures c.in-None.is

pub loop-substitute-preserved : goal.loop-substitute-preserved
loop-substitute-preserved c =
    gluing_both _ _ _ _ _ _ _ _ _ _ _ _ c.loop-substitute.invariant c.in-Some.ensures c.in-PasteOperator.is c.in-Some-pop.ensures
    c.in_ok-right-in-PasteOperator.ensures c.in_ok-join_sides-in-PasteOperator.ensures c.in-Some-2.is

pub returns : goal.returns
returns c =
    gluing_done _ _ _ _ _ _ c.from_vec-substitutes.ensures c.loop-substitute.invariant c.in_default.ensures.0 c.in_ok-append.ensures.items

pub returns-in_default-pop : goal.returns-in_default-pop
returns-in_default-pop c =
    gluing_done_with_paste _ _ _ _ _ _ _ _ _ c.from_vec-substitutes.ensures c.loop-substitute.invariant c.in-Some.ensures c.in-PasteOperator.is c.in_default-pop.ensures.0
    c.in_ok-append-in-PasteOperator.ensures.items
