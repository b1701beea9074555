use Rattle.std.proofs.Common.{sym, ap}
use Rattle.cx_directive.specs.Operands.{tokens_of}
use Rattle.cx_directive.proofs.AnswerLaws.{all_answered, asks_name, asks_nothing, more_answered}
use Rattle.cx_directive.proofs.answers.answered.Goals as goal

pub loop-piece-preserved-in-Some-asked_by : goal.loop-piece-preserved-in-Some-asked_by
loop-piece-preserved-in-Some-asked_by c =
    let t = c.in-Some.piece.now.token in
    let after = tokens_of c.in-Some.after.now in
    let rest = tokens_of c.in-Some-asked_by.rest.now in
    let u = c.in_ok-token-in-Some-asked_by.token in
    more_answered c.args.macros.now c.loop-piece.made.items c.push.new.self.items (tokens_of c.loop-piece.left.now) after t u rest _ c.loop-piece.invariant
    (ap tokens_of c.in-Some.ensures)
    (asks_name c.args.macros.now t u after c.in-Some-asked_by.name.now rest c.is_defined.result c.in-Some-asked_by.ensures.name c.is_defined.ensures
    c.in_ok-token-in-Some-asked_by.ensures)
    c.in_ok-push-in-Some-asked_by.ensures.items

pub loop-piece-preserved : goal.loop-piece-preserved
loop-piece-preserved c =
    let t = c.in-Some.piece.now.token in
    let after = tokens_of c.in-Some.after.now in
    let u = c.in_ok-copy-in-None.field-0 in
    more_answered c.args.macros.now c.loop-piece.made.items c.push-in-None.new.self.items (tokens_of c.loop-piece.left.now) after t u after _ c.loop-piece.invariant
    (ap tokens_of c.in-Some.ensures)
    (asks_nothing c.args.macros.now t u after (sym c.in-None.ensures.name) c.in_ok-copy-in-None.ensures)
    c.in_ok-push-in-None.ensures.items

pub returns : goal.returns
returns c = all_answered c.args.macros.now c.loop-piece.made.items _ _ c.loop-piece.invariant (ap tokens_of c.in_default.ensures)
