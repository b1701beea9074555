use Rattle.cx_configs.proofs.NameListLaws.{most_lists}
use Rattle.cx_configs.proofs.laws.as_many_as_are_looked_at.Goals as goal

pub returns : goal.returns
returns c = most_lists
