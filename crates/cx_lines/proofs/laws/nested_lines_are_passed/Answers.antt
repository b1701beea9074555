use Rattle.cx_lines.proofs.NestLaws.{group_is_passed, section_is_passed}
use Rattle.cx_lines.proofs.laws.nested_lines_are_passed.Goals as goal

pub returns-clause-group : goal.returns-clause-group
returns-clause-group c = group_is_passed

pub returns-clause-section : goal.returns-clause-section
returns-clause-section c = λ inner rest i. section_is_passed i rest
