use Rattle.cx_macro.proofs.OutcomeLaws.{list_same}
use Rattle.cx_macro.proofs.PieceLaws.{one_piece}
use Rattle.cx_macro.proofs.laws.one_outcome.Goals as goal

pub returns : goal.returns
returns c = λ table bound laid list outcome other a b. list_same one_piece a b
