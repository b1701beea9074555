use Rattle.cx_macro.proofs.HideLaws.{hidden, stays}
use Rattle.cx_macro.proofs.laws.a_name_hides_itself.Goals as goal

pub returns : goal.returns
returns c = record {
  hidden = λ table bound laid after name rest ts ahead r. hidden table bound laid name rest ts ahead after r;
  stays = λ table bound laid after name rest ts ahead r. stays table bound laid name rest ts ahead after r;
}
