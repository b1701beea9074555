use Rattle.cx_pre.proofs.SectionLaws.{end_of_section, rest_of_section}
use Rattle.cx_pre.proofs.laws.groups_after_the_chosen_change_nothing.Goals as goal

pub returns-clause-groups : goal.returns-clause-groups
returns-clause-groups c = λ shelf depth file fault s part groups rest outcome p i h. rest_of_section shelf depth file fault s part groups rest outcome p i h

pub returns-clause-end : goal.returns-clause-end
returns-clause-end c = λ shelf depth file fault s end rest outcome e h. end_of_section shelf depth file fault s end rest outcome e h
