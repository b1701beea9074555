use Rattle.cx_pre.proofs.OneLaws.{chooses_same, decides_same}
use Rattle.cx_pre.proofs.ValueLaws.{one_reading}
use Rattle.cx_pre.proofs.laws.one_choice.Goals as goal

pub returns-clause-decision : goal.returns-clause-decision
returns-clause-decision c = λ s line some other a b. decides_same one_reading a b

pub returns-clause-choice : goal.returns-clause-choice
returns-clause-choice c = λ s line rest some other a b. chooses_same one_reading a b
