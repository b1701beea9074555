use Rattle.std.proofs.Common.{◌≡◌, ◌+◌, ◌-◌, ◌∷◌, length, ap, sym, arith}
use Rattle.std.proofs.lemmas.Result.{IfOk-weaker}
use Rattle.std.proofs.lemmas.Option.{IfSome_then}
use Rattle.cx_first.specs.Tree.{tree_of}
use Rattle.cx_first.specs.Grammar.{Chains, ends}
use Rattle.cx_first.proofs.DescentLaws.{reads_number, reads_negation, reads_brackets, reads_chain, chains_more, closed_stops, bracket_parts, chain_parts, chains_parts, brackets_same, terminal_same, terminal_is_at, chains_on}
use Rattle.cx_first.proofs.expressions.+expression.Goals as goal

pub bracketed-returns-in-None-clause-only : goal.bracketed-returns-in-None-clause-only
bracketed-returns-in-None-clause-only t c = λ t' rest r.
    let b = bracket_parts _ _ _ _ _ c.requires.open r in
    rw c.in-None.is at (c.in_ok-chain.ensures.only b.inner (b.close ∷ rest) b.reads (closed_stops b.close rest b.closes))

pub bracketed-returns-in-None-after_terminal-clause-only :
    goal.bracketed-returns-in-None-after_terminal-clause-only
bracketed-returns-in-None-after_terminal-clause-only t c = λ t' rest r.
    let b = bracket_parts _ _ _ _ _ c.requires.open r in
    let same = rw c.in-Some.is at (c.in_ok-chain.ensures.only b.inner (b.close ∷ rest) b.reads (closed_stops b.close rest b.closes)) in
    c.in-None-after_terminal.ensures rest (terminal_is_at _ _ rest b.close b.closes same.1)

pub bracketed-returns-in_ok-inner-in-Some-after_terminal-clause-found :
    goal.bracketed-returns-in_ok-inner-in-Some-after_terminal-clause-found
bracketed-returns-in_ok-inner-in-Some-after_terminal-clause-found t c =
    let found = rw c.in-Some.is at c.in_ok-chain.ensures.found in
    rw c.in_ok-inner-in-Some-after_terminal.ensures (reads_brackets _ _ _ _ _ _ c.requires.open found c.in-Some-after_terminal.ensures)

pub bracketed-returns-in_ok-inner-in-Some-after_terminal-clause-only :
    goal.bracketed-returns-in_ok-inner-in-Some-after_terminal-clause-only
bracketed-returns-in_ok-inner-in-Some-after_terminal-clause-only t c = λ t' rest r.
    let b = bracket_parts _ _ _ _ _ c.requires.open r in
    let same = rw c.in-Some.is at (c.in_ok-chain.ensures.only b.inner (b.close ∷ rest) b.reads (closed_stops b.close rest b.closes)) in
    (brackets_same _ _ _ _ c.in_ok-inner-in-Some-after_terminal.ensures same.0 b.tree, terminal_same _ _ _ _ b.close c.in-Some-after_terminal.ensures same.1)

pub chain-returns-in-None-clause-only : goal.chain-returns-in-None-clause-only
chain-returns-in-None-clause-only t c = λ t' rest r s.
    let e : c.args.level ≡ (c.args.level - 1) + 1 = omega arith in
    let b = chain_parts (c.args.level - 1) e r in
    rw c.in-None.is at (c.in_ok-chain.ensures.only b.first b.mid b.reads (b.stops s))

pub chain-returns-in-Some-clause-found : goal.chain-returns-in-Some-clause-found
chain-returns-in-Some-clause-found t c =
    let e : c.args.level ≡ (c.args.level - 1) + 1 = omega arith in
    let found = rw c.in-Some.is at c.in_ok-chain.ensures.found in
    IfOk-weaker c.operators.result _ _ (λ f h. IfSome_then f h (λ x g. reads_chain _ _ _ _ _ _ _ _ e found g)) c.operators.ensures.found

pub chain-returns-in-Some-clause-only : goal.chain-returns-in-Some-clause-only
chain-returns-in-Some-clause-only t c = λ t' rest r s.
    let e : c.args.level ≡ (c.args.level - 1) + 1 = omega arith in
    let b = chain_parts (c.args.level - 1) e r in
    let same = rw c.in-Some.is at (c.in_ok-chain.ensures.only b.first b.mid b.reads (b.stops s)) in
    let here : Chains c.args.names.now c.args.level (tree_of c.in-Some.left) c.in-Some.rest.now t' rest = rw (same.0, same.1) b.chains in
    c.operators.ensures.only t' rest here s

pub negation-returns-in_ok-operand-in-Some-clause-found :
    goal.negation-returns-in_ok-operand-in-Some-clause-found
negation-returns-in_ok-operand-in-Some-clause-found t c =
    let found = rw c.in-Some.is at c.in_ok-operand.ensures.found in
    rw c.in_ok-operand-in-Some.ensures (reads_negation _ _ _ _ _ c.requires.minus found)

pub operand-returns-in-Number-clause-found : goal.operand-returns-in-Number-clause-found
operand-returns-in-Number-clause-found t c =
    rw c.in-Some.ensures (reads_number _ _ _ _ (sym c.in-Number.ensures))

pub operators-returns-in-None-clause-only : goal.operators-returns-in-None-clause-only
operators-returns-in-None-clause-only t c = λ t' rest r s.
    let e : c.args.level ≡ (c.args.level - 1) + 1 = omega arith in
    let g = c.loop-operator.invariant.only t' rest r s in
    let o = c.in-Some.ensures.some in
    let p = chains_parts (c.args.level - 1) c.in-Some.operator e o.operator o.binds (rw o.whole at g) s in
    rw c.in-None.is at (c.in_ok-chain.ensures.only p.right p.mid p.reads p.stops)

pub operators-loop-operator-preserved : goal.operators-loop-operator-preserved
operators-loop-operator-preserved t c =
    let e : c.args.level ≡ (c.args.level - 1) + 1 = omega arith in
    let o = c.in-Some.ensures.some in
    let found = rw c.in-Some-2.is at c.in_ok-chain.ensures.found in
    record {
      shorter = omega (arith, rw c.in-Some-2.is at c.in_ok-chain.ensures.shorter, ap length o.whole);
      found = λ t' end g. c.loop-operator.invariant.found t' end
          (chains_more _ _ (c.args.level - 1) _ _ _ _ _ _ _ _ _ e o found (rw (c.in_ok-new-in-Some-2.ensures, c.in_ok-new-in-Some-2-2.ensures) at g));
      only = λ t' end g s.
          let h = c.loop-operator.invariant.only t' end g s in
          let p = chains_parts (c.args.level - 1) c.in-Some.operator e o.operator o.binds (rw o.whole at h) s in
          let same = rw c.in-Some-2.is at (c.in_ok-chain.ensures.only p.right p.mid p.reads p.stops) in
          chains_on _ _ _ _ _ _ _ _ _ _ _ _ _ c.in_ok-new-in-Some-2.ensures c.in_ok-new-in-Some-2-2.ensures same.0 same.1 p.chains;
    }

pub operators-returns-clause-found : goal.operators-returns-clause-found
operators-returns-clause-found t c = c.loop-operator.invariant.found _ _ ends
