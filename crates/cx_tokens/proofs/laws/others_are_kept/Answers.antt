use Rattle.cx_tokens.proofs.StayLaws.{others_are_kept as law}
use Rattle.cx_tokens.proofs.laws.others_are_kept.Goals as goal

pub returns : goal.returns
returns c = law
