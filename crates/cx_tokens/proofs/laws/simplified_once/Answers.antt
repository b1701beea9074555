use Rattle.cx_tokens.proofs.UnadornedLaws.{simplified_once}
use Rattle.cx_tokens.proofs.laws.simplified_once.Goals as goal

pub returns : goal.returns
returns c = simplified_once
