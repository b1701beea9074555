use Rattle.cx_lines.proofs.FaultLaws.{has_its_fault}
use Rattle.cx_lines.proofs.laws.each_fault_is_there.Goals as goal

pub returns : goal.returns
returns c = has_its_fault
