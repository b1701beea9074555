use Rattle.cx_asking.proofs.IndexLaws.{nothing_indexed}
use Rattle.cx_asking.proofs.answers.Answers.new.Goals as goal

pub invariant_of-result : goal.invariant_of-result
invariant_of-result c =
    nothing_indexed c.new.result c.new-2.result c.new-3.result.items c.new.ensures c.new-2.ensures c.new-3.ensures.items
