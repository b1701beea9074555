use Rattle.cx_tokens.proofs.PlaceLaws.{from_transitive}
use Rattle.cx_tokens.proofs.laws.from_transitive.Goals as goal

pub returns : goal.returns
returns c = λ m n k nodes l h i. from_transitive m n k nodes l.distinct h i
