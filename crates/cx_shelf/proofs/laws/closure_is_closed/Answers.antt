use Rattle.cx_shelf.proofs.ReachLaws.{closed}
use Rattle.cx_shelf.proofs.laws.closure_is_closed.Goals as goal

pub returns : goal.returns
returns c = λ shelf unit file other f o. closed shelf unit file other f o
