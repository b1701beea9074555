use Rattle.cx_first.proofs.Digits.{value_is}
use Rattle.cx_first.proofs.number.number_value.Goals as goal

pub returns : goal.returns
returns c = value_is c.args.text.now c.value_of.result c.value_of.ensures
