use Rattle.cx_tokens.proofs.UnadornedLaws.{one_simplified as law}
use Rattle.cx_tokens.proofs.laws.one_simplified.Goals as goal

pub returns : goal.returns
returns c = λ nodes some others k. law nodes some others k.distinct
