use Rattle.cx_configs.proofs.NameListLaws.{lists_ascend}
use Rattle.cx_configs.proofs.laws.names_ascend.Goals as goal

pub returns : goal.returns
returns c = lists_ascend
