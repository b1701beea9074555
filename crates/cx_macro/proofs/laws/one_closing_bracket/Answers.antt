use Rattle.cx_macro.proofs.CountingLaws.{brackets_same}
use Rattle.cx_macro.proofs.laws.one_closing_bracket.Goals as goal

pub returns : goal.returns
returns c = brackets_same
