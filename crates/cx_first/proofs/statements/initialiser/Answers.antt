use Rattle.std.proofs.Common.{◌∙◌, Some, sym, arith, ap, length}
use Rattle.cx_first.proofs.StatementLaws.{initialised_at, equals_parts, bare_at, bare_parts}
use Rattle.cx_first.proofs.statements.initialiser.Goals as goal

pub returns-in-None-clause-only : goal.returns-in-None-clause-only
returns-in-None-clause-only c = λ t mark rest i m.
    let p = equals_parts (sym c.in-Equals.ensures) (rw c.in-Some.ensures at i) in
    rw c.in-None.is at (c.in_ok-expression-in-Equals.ensures.only p.tree mark rest p.expression m)

pub returns-in-Some-2-clause-found : goal.returns-in-Some-2-clause-found
returns-in-Some-2-clause-found c =
    rw c.in-Some.ensures (initialised_at (sym c.in-Equals.ensures) (rw c.in-Some-2.is at c.in_ok-expression-in-Equals.ensures.found))

pub returns-in-Some-2-clause-only : goal.returns-in-Some-2-clause-only
returns-in-Some-2-clause-only c = λ t mark rest i m.
    let p = equals_parts (sym c.in-Equals.ensures) (rw c.in-Some.ensures at i) in
    let same = rw c.in-Some-2.is at (c.in_ok-expression-in-Equals.ensures.only p.tree mark rest p.expression m) in
    (ap Some same.0 ∙ sym p.is, same.1, same.2)

pub returns-in_default-terminal_of : goal.returns-in_default-terminal_of
returns-in_default-terminal_of c = record {
  found = rw c.in-Some.ensures (bare_at (sym c.terminal_of.ensures) c.in_default-terminal_of.not-Equals);
  only = λ t mark rest i m. bare_parts _ (sym c.terminal_of.ensures) c.in_default-terminal_of.not-Equals (rw c.in-Some.ensures at i);
  shorter = omega (arith, ap length c.in-Some.ensures);
}
