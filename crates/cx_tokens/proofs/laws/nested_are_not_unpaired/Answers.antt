use Rattle.cx_tokens.proofs.BracketLaws.{nested_not_unpaired}
use Rattle.cx_tokens.proofs.laws.nested_are_not_unpaired.Goals as goal

pub returns : goal.returns
returns c = λ tokens at n u. nested_not_unpaired n u
