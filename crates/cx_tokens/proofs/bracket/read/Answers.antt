use Rattle.std.proofs.Common.{◌≡◌, false, [], sym, ◌∙◌}
use Rattle.std.proofs.lemmas.List.{nil_from_length}
use Rattle.cx_tokens.specs.Brackets.{closes}
use Rattle.cx_tokens.proofs.OpenLaws.{here_slot, open_slot, past_close, past_none_open, past_open, past_other, slot_used}
use Rattle.cx_tokens.proofs.bracket.read.Goals as goal

pub token_at-token-requires : goal.token_at-token-requires
token_at-token-requires c =
    let h = c.requires.so_far in
    slot_used c.args.slots.now c.args.number h.node (here_slot c.args.slots.now c.args.number c.args.stack.now.items h)

pub returns-then-opens-clause-so_far : goal.returns-then-opens-clause-so_far
returns-then-opens-clause-so_far c = λ h.
    past_open c.args.slots.now c.args.number c.token_at-token.result.now c.args.stack.now.items c.push_reserved.new.self.items h c.token_at-token.ensures
    (sym c.opens.ensures ∙ c.if-opens.true) c.push_reserved.ensures.items

pub returns-then-not-closes-clause-so_far : goal.returns-then-not-closes-clause-so_far
returns-then-not-closes-clause-so_far c = λ h.
    let t = c.token_at-token.result.now in
    let k : closes t ≡ false = cc in
    past_other c.args.slots.now c.args.number t c.args.stack.now.items h c.token_at-token.ensures (sym c.opens.ensures ∙ c.if-opens.false) k

pub token_at-requires : goal.token_at-requires
token_at-requires c =
    let s = c.args.slots.now in
    let h = c.requires.so_far in
    slot_used s c.in-Some.start _ (open_slot s c.args.number c.in-Some.start c.pop.new.self.items c.args.stack.now.items c.in-Some.ensures.items h)

pub returns-in-None-clause-so_far : goal.returns-in-None-clause-so_far
returns-in-None-clause-so_far c = λ h.
    let e : c.args.stack.now.items ≡ [] = nil_from_length c.args.stack.now.items (sym c.args.stack.now.ok.0 ∙ c.in-None.ensures.cases.0) in
    past_none_open c.args.slots.now c.args.number c.token_at-token.result.now c.args.stack.now.items h c.token_at-token.ensures (sym c.closes.ensures ∙ c.if-not-closes.false) e

pub returns-in-Some-clause-so_far : goal.returns-in-Some-clause-so_far
returns-in-Some-clause-so_far c = λ h.
    past_close c.args.slots.now c.args.number c.in-Some.start c.token_at-token.result.now c.token_at.result.now c.pop.new.self.items c.args.stack.now.items h
    c.token_at-token.ensures c.token_at.ensures (sym c.closes.ensures ∙ c.if-not-closes.false) c.in-Some.ensures.items c.unfit_place.result c.unfit_place.ensures
