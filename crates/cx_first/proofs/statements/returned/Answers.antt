use Rattle.std.proofs.Common.{sym, ◌∙◌, ap}
use Rattle.cx_first.specs.Tree.{returns}
use Rattle.cx_first.specs.Grammar.{a_return}
use Rattle.cx_first.proofs.StatementLaws.{returned_parts}
use Rattle.cx_first.proofs.statements.returned.Goals as goal

pub returns-in-None-clause-only : goal.returns-in-None-clause-only
returns-in-None-clause-only c = λ form rest s.
    let p = returned_parts c.requires.word s in
    rw c.in-None.is at (c.in_ok-closed_expression.ensures.only p.tree rest p.expression)

pub returns-in-Some-clause-found : goal.returns-in-Some-clause-found
returns-in-Some-clause-found c = a_return c.requires.word (rw c.in-Some.is at c.in_ok-closed_expression.ensures.found)

pub returns-in-Some-clause-only : goal.returns-in-Some-clause-only
returns-in-Some-clause-only c = λ form rest s.
    let p = returned_parts c.requires.word s in
    let value = rw c.in-Some.is at (c.in_ok-closed_expression.ensures.only p.tree rest p.expression) in
    (ap (returns c.args.token.now.place) value.0 ∙ sym p.is, value.1)
