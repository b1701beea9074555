use Rattle.cx_condition.proofs.BitLaws.{complements}
use Rattle.cx_condition.proofs.arithmetic.complement.Goals as goal

pub returns : goal.returns
returns c = λ u. complements u c.args.x c.ranges.x.fits
