use Rattle.std.proofs.Common.{FitsSigned, ◌∙◌, ap}
use Rattle.std.proofs.lemmas.Int.{to_z-of_z}
use Rattle.std.specs.Int.{w128}
use Rattle.cx_tree.specs.Arithmetic.{fit}
use Rattle.cx_tree.proofs.QuotientLaws.{complement_is}
use Rattle.cx_tree.proofs.operators.complement.Goals as goal

pub returns : goal.returns
returns c =
    let f : FitsSigned w128 c.args.a = c.ranges.a in
    simp to_z-of_z at c.fit.ensures ∙ ap (fit c.args.t c.args.p) (complement_is c.args.a f)
