use Rattle.cx_tokens.proofs.StayLaws.{no_word_is_left as law}
use Rattle.cx_tokens.proofs.laws.no_word_is_left.Goals as goal

pub returns : goal.returns
returns c = law
