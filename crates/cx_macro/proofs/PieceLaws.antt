-- At most one kind and text are those of a piece.
use Rattle.cx_lex.proofs.OnePiece.{same_kind}
use Rattle.cx_macro.proofs.OutcomeLaws.{OnePiece}

pub one_piece : OnePiece
one_piece bytes kind other_kind text other_text h k = same_kind bytes kind other_kind text other_text h k
