use Rattle.cx_shelf.proofs.ReachLaws.{closure_apart}
use Rattle.cx_shelf.proofs.laws.each_file_stands_once.Goals as goal

pub returns : goal.returns
returns c = λ shelf unit. closure_apart shelf unit
