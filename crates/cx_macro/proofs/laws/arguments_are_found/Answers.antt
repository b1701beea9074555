use Rattle.cx_macro.proofs.CountingLaws.{arguments_same, joined_some}
use Rattle.cx_macro.proofs.laws.arguments_are_found.Goals as goal

pub returns : goal.returns
returns c = record { some = joined_some; one = λ n variadic ts a b h k. arguments_same h k }
