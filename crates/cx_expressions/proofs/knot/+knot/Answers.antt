use Rattle.std.proofs.Common.{◌≡◌, ap, arith}
use Rattle.cx_expressions.specs.Shapes.Parsers.{readers}
use Rattle.cx_expressions.proofs.KnotTurns.{one_level}
use Rattle.cx_expressions.proofs.knot.+knot.Goals as goal

pub cast-returns-then-depth-eq0 : goal.cast-returns-then-depth-eq0
unfolding readers
cast-returns-then-depth-eq0 t c _ =
    let none : c.args.depth ≡ 0 = omega arith in
    ap (λ n. (readers n).cast c.args.cursor.now) none

pub cast-returns : goal.cast-returns
unfolding readers
cast-returns t c =
    rw (one_level (λ n. (readers n).cast c.args.cursor.now) c.args.depth (omega arith))
    c.cast.ensures

pub unary-returns-then-depth-eq0 : goal.unary-returns-then-depth-eq0
unfolding readers
unary-returns-then-depth-eq0 t c _ =
    let none : c.args.depth ≡ 0 = omega arith in
    ap (λ n. (readers n).unary c.args.cursor.now) none

pub unary-returns : goal.unary-returns
unfolding readers
unary-returns t c =
    rw (one_level (λ n. (readers n).unary c.args.cursor.now) c.args.depth (omega arith))
    c.unary.ensures

pub cond-returns-then-depth-eq0 : goal.cond-returns-then-depth-eq0
unfolding readers
cond-returns-then-depth-eq0 t c _ =
    let none : c.args.depth ≡ 0 = omega arith in
    ap (λ n. (readers n).cond c.args.cursor.now) none

pub cond-returns : goal.cond-returns
unfolding readers
cond-returns t c =
    rw (one_level (λ n. (readers n).cond c.args.cursor.now) c.args.depth (omega arith))
    c.cond.ensures

pub assign-returns-then-depth-eq0 : goal.assign-returns-then-depth-eq0
unfolding readers
assign-returns-then-depth-eq0 t c _ =
    let none : c.args.depth ≡ 0 = omega arith in
    ap (λ n. (readers n).assign c.args.cursor.now) none

pub assign-returns : goal.assign-returns
unfolding readers
assign-returns t c =
    rw (one_level (λ n. (readers n).assign c.args.cursor.now) c.args.depth (omega arith))
    c.assign.ensures
