use Rattle.cx_reading.proofs.OrderLaws.{type_in_order}
use Rattle.cx_reading.proofs.laws.type_tokens_in_order.Goals as goal

pub returns : goal.returns
returns c = type_in_order
