use Rattle.std.proofs.Common.{sym, ◌∙◌, subst}
use Rattle.cx_first.specs.Grammar.{Initialiser}
use Rattle.cx_first.proofs.StatementLaws.{declared_made, declarator_parts, declares_same}
use Rattle.cx_first.proofs.statements.declarator.Goals as goal

pub returns-in-Some-2-clause-found : goal.returns-in-Some-2-clause-found
returns-in-Some-2-clause-found c =
    declared_made _ _ _ _ _ _ _ _ _ _ _ c.in-Some.ensures.some c.len-variable.ensures (rw c.as_slice.ensures at c.in_ok-declare.ensures)
    (rw c.in-Some-2.is at c.in_ok-initialiser.ensures.found)

pub returns-in-Some-2-clause-only : goal.returns-in-Some-2-clause-only
returns-in-Some-2-clause-only c = λ form mark then rest d m.
    let o = c.in-Some.ensures.some in
    let p = declarator_parts (rw o.whole at d) in
    let new = rw c.as_slice.ensures at c.in_ok-declare.ensures in
    let same = rw c.in-Some-2.is at (c.in_ok-initialiser.ensures.only p.value mark rest
    (subst (λ ns. Initialiser c.args.limit ns c.in-Some.rest.now p.value mark rest) (sym new) p.initialiser) m) in
    (declares_same _ _ _ _ _ _ c.len-variable.ensures same.0 p.is, same.1, new ∙ sym p.names_are, same.2)
