use Rattle.cx_lines.proofs.WholeLaws.{no_fault_is_whole, whole_has_no_fault, whole_nested}
use Rattle.cx_lines.proofs.laws.whole_lines_have_no_fault.Goals as goal

pub returns-clause-forth : goal.returns-clause-forth
returns-clause-forth c = whole_has_no_fault

pub returns-clause-back : goal.returns-clause-back
returns-clause-back c = λ lines e. (no_fault_is_whole lines e).0

pub returns-clause-all : goal.returns-clause-all
returns-clause-all c = λ lines e. (no_fault_is_whole lines e).1

pub returns-clause-nested : goal.returns-clause-nested
returns-clause-nested c = λ lines w. whole_nested w
