use Rattle.std.proofs.Common.{◌≡◌, ◌+◌, ◌<◌, ◌∙◌, [], MatchOption, arith, ap, length, refl, sym, subst}
use Rattle.std.proofs.lemmas.List.{nil_from_length}
use Rattle.cx_tokens.specs.Brackets.{IsNested, IsUnpaired}
use Rattle.cx_tokens.specs.Nodes.{tokens}
use Rattle.cx_tokens.proofs.LinkLaws.{read_is}
use Rattle.cx_tokens.proofs.OpenLaws.{here_slot, left_place, left_used, reading_all, reading_past, reading_room, reading_start, reading_to, reading_unfit, slot_in, walk_less}
use Rattle.cx_tokens.proofs.bracket.first_unpaired.Goals as goal

pub loop-at-init : goal.loop-at-init
loop-at-init c = record {
  so_far = λ h. reading_start h.nodes c.args.first c.args.stack.now.items h.first_is c.requires.empty;
  room = refl;
}

pub read-requires-clause-so_far : goal.read-requires-clause-so_far
read-requires-clause-so_far c =
    let h = c.requires.chain in
    reading_to c.args.slots.now c.args.first c.loop-at.at c.in-Some.number c.loop-at.stack.items h c.in-Some.is (c.loop-at.invariant.so_far h)

pub read-requires-clause-room : goal.read-requires-clause-room
read-requires-clause-room c =
    let h = c.requires.chain in
    let r = reading_room c.args.slots.now c.args.first c.loop-at.at c.in-Some.number c.loop-at.stack.items h c.in-Some.is (c.loop-at.invariant.so_far h) in
    let a = c.loop-at.stack.ok.0 in let b = c.loop-at.invariant.room in let d = c.requires.room in omega (arith, r, a, b, d)

pub returns-in-Some-read-clause-place : goal.returns-in-Some-read-clause-place
returns-in-Some-read-clause-place c = λ h.
    reading_unfit c.args.slots.now c.args.first c.loop-at.at c.in-Some.number c.loop-at.stack.items c.read.new.stack.items c.read.result c.in-Some-read.place h c.in-Some.is c.in-Some-read.is
    c.read.ensures.so_far (c.loop-at.invariant.so_far h)

pub bounds-slots-number : goal.bounds-slots-number
bounds-slots-number c =
    let h = c.requires.chain in
    let t = reading_to c.args.slots.now c.args.first c.loop-at.at c.in-Some.number c.loop-at.stack.items h c.in-Some.is (c.loop-at.invariant.so_far h) in
    slot_in c.args.slots.now c.in-Some.number t.node (here_slot c.args.slots.now c.in-Some.number c.loop-at.stack.items t)

pub bounds-slots-number-in_default-read : goal.bounds-slots-number-in_default-read
bounds-slots-number-in_default-read c =
    let h = c.requires.chain in
    let t = reading_to c.args.slots.now c.args.first c.loop-at.at c.in-Some.number c.loop-at.stack.items h c.in-Some.is (c.loop-at.invariant.so_far h) in
    slot_in c.args.slots.now c.in-Some.number t.node (here_slot c.args.slots.now c.in-Some.number c.loop-at.stack.items t)

pub loop-at-smaller : goal.loop-at-smaller
loop-at-smaller c =
    let h = c.requires.chain in
    let s = c.args.slots.now in
    let n = c.in-Some.number in
    let y = c.index-slots-number.result in
    let t = reading_to s c.args.first c.loop-at.at n c.loop-at.stack.items h c.in-Some.is (c.loop-at.invariant.so_far h) in
    let l = slot_in s n t.node (here_slot s n c.loop-at.stack.items t) in
    walk_less s c.args.first c.loop-at.at _ n y c.loop-at.stack.items h c.in-Some.is (read_is s n y l c.index-slots-number.is) (ap (λ x. x.next) (sym c.index-slots-number.is)) (c.loop-at.invariant.so_far h)

pub loop-at-preserved : goal.loop-at-preserved
loop-at-preserved c =
    let s = c.args.slots.now in
    let n = c.in-Some.number in
    let y = c.index-slots-number.result in
    let few : length c.read.new.stack.items < length c.loop-at.stack.items + 2 = (let a = c.read.new.stack.ok.0 in let b = c.loop-at.stack.ok.0 in let d = c.read.ensures.few in omega (arith, a, b, d)) in
    record {
      so_far = λ h.
          let t = reading_to s c.args.first c.loop-at.at n c.loop-at.stack.items h c.in-Some.is (c.loop-at.invariant.so_far h) in
          let l = slot_in s n t.node (here_slot s n c.loop-at.stack.items t) in
          reading_past s c.args.first c.loop-at.at _ n y c.loop-at.stack.items c.read.new.stack.items c.read.result h c.in-Some.is (read_is s n y l c.index-slots-number.is) (ap (λ x. x.next) (sym c.index-slots-number.is))
          c.in_default-read.is (omega (arith, few)) c.read.ensures.so_far (c.loop-at.invariant.so_far h);
      room = c.read.ensures.room ∙ c.loop-at.invariant.room;
    }

pub returns-in_err-start-clause-place : goal.returns-in_err-start-clause-place
returns-in_err-start-clause-place c = λ h.
    let e : c.loop-at.stack.items ≡ [] = nil_from_length c.loop-at.stack.items (sym c.loop-at.stack.ok.0 ∙ c.in_err-start.ensures.cases.0) in
    subst (λ o. MatchOption o (IsNested (tokens h.nodes)) (IsUnpaired (tokens h.nodes))) (sym c.from_residual.ensures)
    (reading_all h.nodes c.loop-at.at c.loop-at.stack.items c.in_default.is e (c.loop-at.invariant.so_far h))

pub token_at-requires : goal.token_at-requires
token_at-requires c =
    let h = c.requires.chain in
    left_used c.args.slots.now c.args.first c.loop-at.at c.in_ok-start.start c.pop.new.self.items c.loop-at.stack.items h c.in_default.is c.in_ok-start.ensures.items (c.loop-at.invariant.so_far h)

pub returns-clause-place : goal.returns-clause-place
returns-clause-place c = λ h.
    left_place c.args.slots.now c.args.first c.loop-at.at c.in_ok-start.start c.token_at.result.now c.pop.new.self.items c.loop-at.stack.items h c.in_default.is c.in_ok-start.ensures.items c.token_at.ensures
    (c.loop-at.invariant.so_far h)
