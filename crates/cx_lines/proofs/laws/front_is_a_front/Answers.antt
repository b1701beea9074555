use Rattle.cx_lines.proofs.WholeLaws.{front_stops}
use Rattle.cx_lines.proofs.laws.front_is_a_front.Goals as goal

pub returns : goal.returns
returns c = front_stops
