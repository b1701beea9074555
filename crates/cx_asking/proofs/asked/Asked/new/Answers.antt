use Rattle.std.proofs.Common.{ap, refl}
use Rattle.cx_asking.proofs.IndexLaws.{nothing_gathered}
use Rattle.cx_asking.proofs.asked.Asked.new.Goals as goal

pub invariant_of-result : goal.invariant_of-result
invariant_of-result c =
    nothing_gathered c.new.result c.new-2.result.files c.new-3.result.items 0 c.new.ensures (ap (λ s. s.files) c.new-2.ensures) c.new-3.ensures.items refl
