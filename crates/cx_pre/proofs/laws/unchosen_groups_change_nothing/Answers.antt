use Rattle.cx_pre.proofs.SectionLaws.{unchosen_group}
use Rattle.cx_pre.proofs.laws.unchosen_groups_change_nothing.Goals as goal

pub returns : goal.returns
returns c = λ shelf depth file fault s laid line end group rest outcome o d g e h. unchosen_group shelf depth file fault s laid line end group rest outcome o d g e h
