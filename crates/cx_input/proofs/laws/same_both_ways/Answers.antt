use Rattle.cx_input.proofs.InputLaws.{same_back}
use Rattle.cx_input.proofs.laws.same_both_ways.Goals as goal

pub returns : goal.returns
returns c = λ g h path same. same_back g h path same
