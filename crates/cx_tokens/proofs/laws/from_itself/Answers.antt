use Rattle.cx_tokens.proofs.PlaceLaws.{from_itself}
use Rattle.cx_tokens.proofs.laws.from_itself.Goals as goal

pub returns : goal.returns
returns c = from_itself
