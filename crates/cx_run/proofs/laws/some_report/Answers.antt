use Rattle.cx_run.proofs.SomeReport.{some_report}
use Rattle.cx_run.proofs.laws.some_report.Goals as goal

pub returns : goal.returns
returns c = λ limits words seen refuted. some_report c.some_unit_report.ensures c.a_refused_word_stays.ensures.within limits words seen refuted
