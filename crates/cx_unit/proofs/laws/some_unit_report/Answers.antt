use Rattle.cx_unit.proofs.ReportLaws.{some_report}
use Rattle.cx_unit.proofs.laws.some_unit_report.Goals as goal

pub returns : goal.returns
returns c = some_report
