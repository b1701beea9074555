use Rattle.cx_condition.proofs.TreeLaws.{number_constant}
use Rattle.cx_condition.proofs.laws.a_number_is_its_constant.Goals as goal

pub returns : goal.returns
returns c = number_constant
