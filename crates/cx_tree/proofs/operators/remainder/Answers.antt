use Rattle.std.proofs.Common.{rules, FitsSigned, ◌∙◌, ap}
use Rattle.std.proofs.lemmas.Int.{to_z-of_z}
use Rattle.std.specs.Int.{w128}
use Rattle.cx_tree.specs.Arithmetic.{fit}
use Rattle.cx_tree.proofs.QuotientLaws.{rest_is, remainder_where}
use Rattle.cx_tree.proofs.operators.remainder.Goals as goal

pub returns : goal.returns
returns c =
    let f : FitsSigned w128 c.args.a = c.ranges.a in
    let g : FitsSigned w128 c.args.b = c.ranges.b in
    let r : FitsSigned w128 c.wrapping_rem.result = search rules in
    let e = simp to_z-of_z at c.wrapping_rem.ensures in
    c.fit.ensures
    ∙ ap (fit c.args.t c.args.p) (to_z-of_z w128 c.wrapping_rem.result r ∙ e ∙ rest_is c.args.a c.args.b)
    ∙ remainder_where c.args.t c.args.p c.args.a c.args.b c.in_ok-_quotient._quotient (simp to_z-of_z at c.in_ok-_quotient.ensures)
