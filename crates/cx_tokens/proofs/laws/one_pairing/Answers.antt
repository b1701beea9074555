use Rattle.cx_tokens.proofs.BalanceLaws.{same_pairing}
use Rattle.cx_tokens.proofs.laws.one_pairing.Goals as goal

pub returns : goal.returns
returns c = λ some others h k e f. same_pairing some others h k e f
