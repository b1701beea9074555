use Rattle.cx_tree.proofs.CommonTypeLaws.{promotes_values}
use Rattle.cx_tree.proofs.laws.promotion.Goals as goal

pub returns : goal.returns
returns c = promotes_values
