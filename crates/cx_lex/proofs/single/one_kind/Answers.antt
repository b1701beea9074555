use Rattle.cx_lex.proofs.OnePiece.{same_kind}
use Rattle.cx_lex.proofs.single.one_kind.Goals as goal

pub returns : goal.returns
returns c = same_kind
