use Rattle.cx_tokens.proofs.DigraphLaws.{spelling_kept}
use Rattle.cx_tokens.proofs.laws.spelling_is_kept.Goals as goal

pub returns : goal.returns
returns c = spelling_kept
