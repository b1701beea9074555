use Rattle.cx_tokens.proofs.StayLaws.{no_strings_adjoin as law}
use Rattle.cx_tokens.proofs.laws.no_strings_adjoin.Goals as goal

pub returns : goal.returns
returns c = law
