use Rattle.std.proofs.Common.{◌≡◌, pos, negsuc, FitsSigned, ◌∙◌, arith}
use Rattle.std.proofs.lemmas.Int.{ints, to_z-of_z}
use Rattle.std.specs.Int.{w128}
use Rattle.cx_tree.proofs.QuotientLaws.{divide_minus_one, divide_other}
use Rattle.cx_tree.proofs.operators.divide.Goals as goal
use Rattle.cx_tree.proofs.operators.divide.Goals.{in_default-via-then-b-ltminus1, in_default-via-else-b-ltminus1+else-b-lt0+else-b-lt1}

pub returns-in-minus1 : goal.returns-in-minus1
returns-in-minus1 c =
    let f : FitsSigned w128 c.args.a = c.ranges.a in
    let e : c.args.b ≡ negsuc 0 = omega (arith, ints) in
    simp to_z-of_z at c.negate.ensures ∙ divide_minus_one c.args.t c.args.p c.args.a c.args.b e

pub returns-in_default : goal.returns-in_default
returns-in_default c =
    let f : FitsSigned w128 c.args.a = c.ranges.a in
    let g : FitsSigned w128 c.args.b = c.ranges.b in
    let zero : c.args.b ≡ pos 0 → ⊥ = λ e. elim c.in_default.branch [ in_default-via-then-b-ltminus1 w ↦ omega (arith, ints) | in_default-via-else-b-ltminus1+else-b-lt0+else-b-lt1 w ↦ omega (arith, ints) ] in
    let one : c.args.b ≡ negsuc 0 → ⊥ = λ e. elim c.in_default.branch [ in_default-via-then-b-ltminus1 w ↦ omega (arith, ints) | in_default-via-else-b-ltminus1+else-b-lt0+else-b-lt1 w ↦ omega (arith, ints) ] in
    c.fit.ensures ∙ divide_other c.args.t c.args.p c.args.a c.args.b f g zero one
