use Rattle.cx_items.proofs.EndLaws.{item_whole}
use Rattle.cx_items.proofs.laws.no_part_is_lost.Goals as goal

pub returns : goal.returns
returns c parts front rest h = item_whole h
