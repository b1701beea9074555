use Rattle.std.proofs.Common.{rules, FitsSigned, ◌∙◌, ap}
use Rattle.std.proofs.lemmas.Int.{to_z-of_z}
use Rattle.std.specs.Int.{w128}
use Rattle.cx_tree.specs.Shapes.Outside.{fit_outside}
use Rattle.cx_tree.proofs.OutsideLaws.{negate_outside}
use Rattle.cx_tree.proofs.operators.negate.Goals as goal

pub returns-in-None : goal.returns-in-None
returns-in-None c =
    let f : FitsSigned w128 c.args.a = c.ranges.a in
    let g : FitsSigned w128 c.wrapping_neg.result = search rules in
    let e = simp to_z-of_z at c.wrapping_neg.ensures in
    c.fit_outside.ensures
    ∙ ap (fit_outside c.args.t c.args.p) (to_z-of_z w128 c.wrapping_neg.result g ∙ e)
    ∙ negate_outside _ _ _ f (simp to_z-of_z at c.in-None.ensures)
