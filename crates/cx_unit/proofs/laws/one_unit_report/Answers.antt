use Rattle.cx_unit.proofs.ReportLaws.{one_report}
use Rattle.cx_unit.proofs.laws.one_unit_report.Goals as goal

pub returns : goal.returns
returns c = one_report
