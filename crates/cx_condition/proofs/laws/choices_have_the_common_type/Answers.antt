use Rattle.cx_condition.proofs.TreeLaws.{common_type}
use Rattle.cx_condition.proofs.laws.choices_have_the_common_type.Goals as goal

pub returns : goal.returns
returns c = common_type
