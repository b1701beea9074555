use Rattle.cx_run.proofs.ReportLaws.{one_report}
use Rattle.cx_run.proofs.laws.one_report.Goals as goal

pub returns : goal.returns
returns c = one_report c.one_unit_report.ensures c.not_both.ensures
