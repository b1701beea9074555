use Rattle.std.proofs.Common.{◌≡◌, ◌-◌, ◌+◌, suc, Some, ap, ◌∙◌, sym, arith}
use Rattle.std.proofs.lemmas.Result.{err_from_is_err_and}
use Rattle.cx_reading.specs.Parsing.{behind, many_from}
use Rattle.cx_reading.proofs.Turns.{begun, refused, absent, longer, full}
use Rattle.cx_expressions.specs.Shapes.Parsers.{readers, link, lor}
use Rattle.cx_expressions.proofs.ChainTurns.{first_refused, links_refused, level_read}
use Rattle.cx_expressions.proofs.operands.Grammar.+chain.Goals as goal

pub links-loop-turn-init : goal.links-loop-turn-init
links-loop-turn-init g t c =
    begun _ _ _ c.left-turn-end.ensures
    ∙ ap (λ found. behind found (many_from
    (link c.args.level (lor (readers c.args.self.now.depth) (c.args.level - 1)))
    (c.left-turn-end.result - 0) c.args.cursor.now))
    (sym c.new-links.ensures)

pub links-returns-in_err-link : goal.links-returns-in_err-link
links-returns-in_err-link g t c =
    let known = err_from_is_err_and c.from_residual.result c.from_residual.ensures.1 in
    rw (known.1, known.2) (λ e.
    refused _ _ _ _ _ _ c.loop-turn.invariant c.loop-turn-test.true (c.in_err-link.ensures e))

pub links-returns-in-None : goal.links-returns-in-None
links-returns-in-None g t c =
    absent _ _ _ _ _ _ c.loop-turn.invariant c.loop-turn-test.true _ _ c.in-None.is
    c.in_ok-link.ensures

pub links-loop-turn-preserved : goal.links-loop-turn-preserved
links-loop-turn-preserved g t c =
    longer _ _ _ _ _ _ c.loop-turn.invariant c.loop-turn-test.true _ _ _ c.in-Some.is
    c.in_ok-link.ensures
    ∙ ap (λ found. behind found (many_from
    (link c.args.level (lor (readers c.args.self.now.depth) (c.args.level - 1)))
    (c.left-turn-end.result - (c.loop-turn._turn + 1)) c.link.new.cursor))
    (sym c.in_ok-push-in-Some.ensures.ok)

pub links-returns : goal.links-returns
links-returns g t c = full _ _ _ _ _ _ c.loop-turn.invariant c.loop-turn-test.false

pub lor_from-returns-in_err-first : goal.lor_from-returns-in_err-first
lor_from-returns-in_err-first g t c =
    let known = err_from_is_err_and c.from_residual.result c.from_residual.ensures.1 in
    let e : c.args.level ≡ suc (c.args.level - 1) = omega arith in
    rw (known.1, known.2) (λ h. first_refused _ _ _ _ _ e (c.in_err-first.ensures h))

pub lor_from-returns-in_err-links : goal.lor_from-returns-in_err-links
lor_from-returns-in_err-links g t c =
    let known = err_from_is_err_and c.from_residual-in_err-links.result
    c.from_residual-in_err-links.ensures.1 in
    let e : c.args.level ≡ suc (c.args.level - 1) = omega arith in
    rw (known.1, known.2) (λ h.
    links_refused _ _ _ _ _ e _ _ c.in_ok-first.ensures (c.in_err-links.ensures h))

pub lor_from-returns : goal.lor_from-returns
lor_from-returns g t c =
    let e : c.args.level ≡ suc (c.args.level - 1) = omega arith in
    level_read _ _ _ _ _ e _ _ _ _ c.in_ok-first.ensures c.in_ok-links.ensures
    ∙ ap (λ tree. Some (tree, c.links.new.cursor)) (sym c.in_ok-chained.ensures)
