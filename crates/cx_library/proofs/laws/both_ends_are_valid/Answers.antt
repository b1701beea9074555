use Rattle.cx_library.proofs.ValidLaws.{between}
use Rattle.cx_library.proofs.laws.both_ends_are_valid.Goals as goal

pub returns : goal.returns
returns c = between
