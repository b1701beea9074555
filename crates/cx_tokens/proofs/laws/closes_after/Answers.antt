use Rattle.cx_tokens.proofs.SweptPairs.{closes_after}
use Rattle.cx_tokens.proofs.laws.closes_after.Goals as goal

pub returns : goal.returns
returns c = closes_after
