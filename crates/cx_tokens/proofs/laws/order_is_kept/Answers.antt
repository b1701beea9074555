use Rattle.cx_tokens.proofs.StayLaws.{order_is_kept as law}
use Rattle.cx_tokens.proofs.laws.order_is_kept.Goals as goal

pub returns : goal.returns
returns c = law
