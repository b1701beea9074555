use Rattle.cx_shelf.proofs.ReachLaws.{closure_after}
use Rattle.cx_shelf.proofs.laws.each_file_is_reached.Goals as goal

pub returns : goal.returns
returns c = λ shelf unit file front back e. closure_after shelf unit front back file e
