use Rattle.std.proofs.Common.{◌-◌, ◌+◌, ap, ◌∙◌, sym}
use Rattle.std.proofs.lemmas.Result.{err_from_is_err_and}
use Rattle.cx_reading.specs.Parsing.{behind, many_from}
use Rattle.cx_reading.proofs.Turns.{begun, refused, absent, longer, full}
use Rattle.cx_reading.proofs.rows.many.Goals as goal

pub loop-turn-init : goal.loop-turn-init
loop-turn-init g c = λ p h.
    begun p _ _ c.left-turn-end.ensures
    ∙ ap (λ found. behind found (many_from p (c.left-turn-end.result - 0) c.args.cursor.now))
    (sym c.new-items.ensures)

pub returns-in_err-item : goal.returns-in_err-item
returns-in_err-item g c = λ p h.
    let known = err_from_is_err_and c.from_residual.result c.from_residual.ensures.1 in
    rw (known.1, known.2) (λ e.
    refused p _ _ _ _ _ (c.loop-turn.invariant p h) c.loop-turn-test.true
    (h _ _ _ c.in_err-item.ensures e))

pub returns-in-None : goal.returns-in-None
returns-in-None g c = λ p h.
    absent p _ _ _ _ _ (c.loop-turn.invariant p h) c.loop-turn-test.true _ _ c.in-None.is
    (h _ _ _ c.in_ok-item.ensures)

pub loop-turn-preserved : goal.loop-turn-preserved
loop-turn-preserved g c = λ p h.
    longer p _ _ _ _ _ (c.loop-turn.invariant p h) c.loop-turn-test.true _ _ _ c.in-Some.is
    (h _ _ _ c.in_ok-item.ensures)
    ∙ ap (λ found. behind found
    (many_from p (c.left-turn-end.result - (c.loop-turn._turn + 1)) c.item.new.arg2))
    (sym c.in_ok-push-in-Some.ensures.ok)

pub returns : goal.returns
returns g c = λ p h. full p _ _ _ _ _ (c.loop-turn.invariant p h) c.loop-turn-test.false
