use Rattle.std.proofs.Common.{◌≤◌, ◌+◌, ◌∙◌, arith, length, refl}
use Rattle.cx_tokens.proofs.LinkLaws.{read_is}
use Rattle.cx_tokens.proofs.OpenLaws.{slot_in}
use Rattle.cx_tokens.proofs.PairLaws.{half_at, here_slot, pairing_end, pairing_less, pairing_past, pairing_room, pairing_start}
use Rattle.cx_tokens.proofs.bracket.pair.Goals as goal

pub loop-at-init : goal.loop-at-init
loop-at-init c = record {
  so_far = λ h. pairing_start c.args.slots.now.items c.args.first c.args.stack.now.items h c.requires.empty (c.requires.nested h);
  room = refl;
}

pub index-requires : goal.index-requires
index-requires c =
    let old = c.args.slots.now.items in
    let s = c.loop-at.slots.items in
    let h = c.requires.chain in
    let g = half_at old s c.args.first c.loop-at.at c.in-Some.number c.loop-at.stack.items h c.in-Some.is (c.loop-at.invariant.so_far h) in
    let l = slot_in s c.in-Some.number g.node (here_slot s c.in-Some.number c.loop-at.stack.items g) in
    let o = c.loop-at.slots.ok.0 in omega (arith, l, o)

pub pair_one-requires-clause-so_far : goal.pair_one-requires-clause-so_far
pair_one-requires-clause-so_far c =
    let h = c.requires.chain in
    half_at c.args.slots.now.items c.loop-at.slots.items c.args.first c.loop-at.at c.in-Some.number c.loop-at.stack.items h c.in-Some.is (c.loop-at.invariant.so_far h)

pub pair_one-requires-clause-room : goal.pair_one-requires-clause-room
pair_one-requires-clause-room c =
    let h = c.requires.chain in
    let p = c.loop-at.invariant.so_far h in
    let r = pairing_room c.args.slots.now.items c.loop-at.slots.items c.args.first c.loop-at.at c.in-Some.number c.loop-at.stack.items h c.in-Some.is p in
    let a = c.loop-at.stack.ok.0 in let b = c.loop-at.invariant.room in let d = c.requires.room in let l = p.paired.long in omega (arith, r, a, b, d, l)

pub loop-at-smaller : goal.loop-at-smaller
loop-at-smaller c =
    let old = c.args.slots.now.items in
    let s = c.loop-at.slots.items in
    let h = c.requires.chain in
    let n = c.in-Some.number in
    let y = c.index.result.now in
    let p = c.loop-at.invariant.so_far h in
    let g = half_at old s c.args.first c.loop-at.at n c.loop-at.stack.items h c.in-Some.is p in
    let l = slot_in s n g.node (here_slot s n c.loop-at.stack.items g) in
    pairing_less old s c.pair_one.new.slots.items c.args.first c.loop-at.at y.next n y c.loop-at.stack.items c.pair_one.new.stack.items h c.in-Some.is (read_is s n y l c.index.ensures) refl c.pair_one.ensures.so_far p

pub loop-at-preserved : goal.loop-at-preserved
loop-at-preserved c =
    let old = c.args.slots.now.items in
    let s = c.loop-at.slots.items in
    let n = c.in-Some.number in
    let y = c.index.result.now in
    let few : length c.pair_one.new.stack.items ≤ length c.loop-at.stack.items + 1 =
    (let a = c.pair_one.new.stack.ok.0 in let b = c.loop-at.stack.ok.0 in let d = c.pair_one.ensures.few in omega (arith, a, b, d)) in
    record {
      so_far = λ h.
          let p = c.loop-at.invariant.so_far h in
          let g = half_at old s c.args.first c.loop-at.at n c.loop-at.stack.items h c.in-Some.is p in
          let l = slot_in s n g.node (here_slot s n c.loop-at.stack.items g) in
          pairing_past old s c.pair_one.new.slots.items c.args.first c.loop-at.at y.next n y c.loop-at.stack.items c.pair_one.new.stack.items h c.in-Some.is (read_is s n y l c.index.ensures) refl few c.pair_one.ensures.so_far p;
      room = c.pair_one.ensures.room ∙ c.loop-at.invariant.room;
    }

pub returns-clause-paired : goal.returns-clause-paired
returns-clause-paired c = λ h.
    (pairing_end c.args.slots.now.items c.loop-at.slots.items c.args.first c.loop-at.at c.loop-at.stack.items h c.in_default.is (c.loop-at.invariant.so_far h)).0

pub returns-clause-emptied : goal.returns-clause-emptied
returns-clause-emptied c =
    let h = c.requires.chain in
    (pairing_end c.args.slots.now.items c.loop-at.slots.items c.args.first c.loop-at.at c.loop-at.stack.items h c.in_default.is (c.loop-at.invariant.so_far h)).1
