use Rattle.cx_configs.proofs.NameListLaws.{lists_are_open}
use Rattle.cx_configs.proofs.laws.settled_names_are_in_no_list.Goals as goal

pub returns : goal.returns
returns c = lists_are_open
