use Rattle.cx_unit.proofs.ReportLaws.{report_or_none}
use Rattle.cx_unit.proofs.laws.not_both.Goals as goal

pub returns : goal.returns
returns c = report_or_none
