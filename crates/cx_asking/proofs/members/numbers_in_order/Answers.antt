use Rattle.std.proofs.Common.{ap}
use Rattle.cx_asking.proofs.MemberLaws.{all_in_order, next_in_order, none_in_order}
use Rattle.cx_asking.proofs.members.numbers_in_order.Goals as goal

pub loop-number-init : goal.loop-number-init
loop-number-init c = none_in_order c.new-numbers.result.keys c.args.entries.now c.new-numbers.ensures.empty

pub loop-number-preserved : goal.loop-number-preserved
loop-number-preserved c =
    next_in_order c.loop-number.numbers.keys c.insert.new.self.keys c.args.entries.now c.loop-number.number
    c.index-entries-number.result (c.as_bytes.result, c.loop-number.number) c.loop-number.invariant
    c.loop-number-test.true c.index-entries-number.is
    (ap (λ name. (name, c.loop-number.number)) c.as_bytes.ensures) c.in_ok-insert.ensures.keys

pub returns : goal.returns
returns c = all_in_order c.loop-number.numbers.keys c.args.entries.now c.loop-number.number c.loop-number.invariant c.loop-number-test.false
