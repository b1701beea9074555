use Rattle.cx_configs.proofs.NameListLaws.{lists_are_distinct}
use Rattle.cx_configs.proofs.laws.no_list_stands_twice.Goals as goal

pub returns : goal.returns
returns c = lists_are_distinct
