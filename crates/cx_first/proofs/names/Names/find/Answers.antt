use Rattle.std.proofs.Common.{arith, length, ℕ, List, ap}
use Rattle.std.proofs.lemmas.List.{length-map}
use Rattle.cx_first.proofs.NameLaws.{found}
use Rattle.cx_first.proofs.names.Names.find.Goals as goal

pub overflow_cast-result : goal.overflow_cast-result
overflow_cast-result c = omega (arith, length-map c.self.inside.names (λ e. e.0), ap length c.self.view_is, c.in-Some.ensures.within)

pub returns-in-Some : goal.returns-in-Some
returns-in-Some c = found _ _ _ _ c.self.view_is c.in-Some.ensures.index

pub returns-in-None : goal.returns-in-None
returns-in-None c = found _ _ _ _ c.self.view_is c.in-None.ensures.index
