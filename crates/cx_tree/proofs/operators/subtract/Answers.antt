use Rattle.std.proofs.Common.{FitsSigned, ◌∙◌}
use Rattle.std.proofs.lemmas.Int.{to_z-of_z}
use Rattle.std.specs.Int.{w128}
use Rattle.cx_tree.proofs.OutsideLaws.{subtract_outside}
use Rattle.cx_tree.proofs.operators.subtract.Goals as goal

pub returns-in-None : goal.returns-in-None
returns-in-None c =
    let f : FitsSigned w128 c.args.a = c.ranges.a in
    let g : FitsSigned w128 c.args.b = c.ranges.b in
    c.fit_outside.ensures ∙ subtract_outside _ _ _ _ f g (simp to_z-of_z at c.in-None.ensures)
