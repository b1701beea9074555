use Rattle.std.proofs.lemmas.Iterator.Consumers.{YieldsList-end, YieldsList-from_rest}
use Rattle.cx_asking.proofs.MemberLaws.{all_members}
use Rattle.cx_asking.proofs.members.members_of.Goals as goal

pub returns : goal.returns
returns c =
    let t = YieldsList-end (YieldsList-from_rest c.in_ok-numbers.numbers.keys cc) c.loop-number.yielded _ c.loop-number.yielded_by _ _ c.in-None.is c.next.ensures.steps in
    all_members c.args.folder.now c.args.entries.now c.in_ok-numbers.numbers.keys c.loop-number.yielded c.loop-number.members.items c.loop-number.invariant t.0 c.in_ok-numbers.ensures
