use Rattle.std.proofs.Common.{◌≡◌, false, Some, sym, ap, ◌∙◌, subst, length, ◌<◌}
use Rattle.std.proofs.lemmas.List.{nil_from_length}
use Rattle.cx_tokens.specs.Brackets.{closes}
use Rattle.cx_tokens.specs.Shapes.Links.{with_mate}
use Rattle.cx_tokens.specs.Shapes.Pairing.{IsTokenAt, IsUsed}
use Rattle.cx_tokens.proofs.LinkLaws.{changed_length}
use Rattle.cx_tokens.proofs.OpenLaws.{slot_in, slot_used}
use Rattle.cx_tokens.proofs.PairLaws.{half_close, half_none, half_open, half_other, half_within, here_slot}
use Rattle.cx_tokens.proofs.bracket.pair_one.Goals as goal

pub token_at-token-requires : goal.token_at-token-requires
token_at-token-requires c =
    let h = c.requires.so_far in
    subst (λ s. IsUsed s c.args.number) (sym c.as_slice.ensures.value)
    (slot_used c.args.slots.now.items c.args.number h.node (here_slot c.args.slots.now.items c.args.number c.args.stack.now.items h))

pub returns-then-opens-clause-so_far : goal.returns-then-opens-clause-so_far
returns-then-opens-clause-so_far c = λ h.
    let f = subst (λ s. IsTokenAt s c.args.number c.token_at-token.result.now) c.as_slice.ensures.value c.token_at-token.ensures in
    half_open c.args.slots.now.items c.args.number c.token_at-token.result.now c.args.stack.now.items c.push_reserved.new.self.items h f
    (sym c.opens.ensures ∙ c.if-opens.true) c.push_reserved.ensures.items

pub set_mate-requires : goal.set_mate-requires
set_mate-requires c =
    let h = c.requires.so_far in
    slot_in c.args.slots.now.items c.args.number h.node (here_slot c.args.slots.now.items c.args.number c.args.stack.now.items h)

pub returns-then-not-closes-clause-so_far : goal.returns-then-not-closes-clause-so_far
returns-then-not-closes-clause-so_far c = λ h.
    let t = c.token_at-token.result.now in
    let f = subst (λ s. IsTokenAt s c.args.number t) c.as_slice.ensures.value c.token_at-token.ensures in
    let k : closes t ≡ false = cc in
    half_other c.args.slots.now.items c.set_mate.new.slots.items c.args.number t c.args.stack.now.items h f (sym c.opens.ensures ∙ c.if-opens.false) k c.set_mate.ensures

pub set_mate-requires-in-Some : goal.set_mate-requires-in-Some
set_mate-requires-in-Some c = half_within c.args.slots.now.items c.args.number c.in-Some.start c.pop.new.self.items c.args.stack.now.items c.in-Some.ensures.items c.requires.so_far

pub set_mate-requires-in-Some-2 : goal.set_mate-requires-in-Some-2
set_mate-requires-in-Some-2 c =
    let h = c.requires.so_far in
    subst (λ k. c.args.number < k) (sym (ap length c.set_mate-in-Some.ensures ∙ changed_length c.in-Some.start (with_mate (Some c.args.number)) c.args.slots.now.items))
    (slot_in c.args.slots.now.items c.args.number h.node (here_slot c.args.slots.now.items c.args.number c.args.stack.now.items h))

pub returns-in-Some-clause-so_far : goal.returns-in-Some-clause-so_far
returns-in-Some-clause-so_far c = λ h.
    let t = c.token_at-token.result.now in
    let f = subst (λ s. IsTokenAt s c.args.number t) c.as_slice.ensures.value c.token_at-token.ensures in
    half_close c.args.slots.now.items c.set_mate-in-Some.new.slots.items c.set_mate-in-Some-2.new.slots.items c.args.number c.in-Some.start t c.pop.new.self.items c.args.stack.now.items h f
    (sym c.closes.ensures ∙ c.if-not-closes.false) c.in-Some.ensures.items c.set_mate-in-Some.ensures c.set_mate-in-Some-2.ensures

pub returns-in_default-clause-so_far : goal.returns-in_default-clause-so_far
returns-in_default-clause-so_far c = λ h.
    let t = c.token_at-token.result.now in
    let f = subst (λ s. IsTokenAt s c.args.number t) c.as_slice.ensures.value c.token_at-token.ensures in
    absurd (half_none c.args.slots.now.items c.args.number t c.args.stack.now.items h f (sym c.closes.ensures ∙ c.if-not-closes.false)
    (nil_from_length c.args.stack.now.items (sym c.args.stack.now.ok.0 ∙ c.in_default.ensures.cases.0)))
