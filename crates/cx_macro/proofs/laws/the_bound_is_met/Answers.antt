use Rattle.cx_macro.proofs.BoundLaws.{met, passed}
use Rattle.cx_macro.proofs.laws.the_bound_is_met.Goals as goal

pub returns : goal.returns
returns c = record { expanded = met; refused = passed }
