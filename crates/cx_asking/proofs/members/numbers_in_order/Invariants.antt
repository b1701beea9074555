use Rattle.std.proofs.Common.{◌≡◌, [], fold, map, take}
use Rattle.std.specs.BTreeSet.{insert_key as insert_in_order}
use Rattle.cx_asking.specs.Members.{numbered, numbered_cmp}
use Rattle.cx_asking.proofs.members.numbers_in_order.Given as goal

abbrev pub invariant-loop-number : goal.invariant-loop-number
invariant-loop-number l =
    map (λ k. (k.0.now, k.1)) l.numbers.keys
    ≡ fold (insert_in_order numbered_cmp) [] (numbered 0 (take l.number l.entries))
