use Rattle.std.proofs.Common.{sym}
use Rattle.std.proofs.lemmas.Result.{IfOk-weaker}
use Rattle.std.proofs.lemmas.Option.{IfSome_then}
use Rattle.cx_first.specs.Grammar.{a_statement}
use Rattle.cx_first.proofs.StatementLaws.{declaration_made, declaration_behind, statement_parts}
use Rattle.cx_first.proofs.statements.statement.Goals as goal

pub returns-in-Some-clause-found : goal.returns-in-Some-clause-found
returns-in-Some-clause-found c =
    rw c.in-Statement.is (IfOk-weaker c.declaration-in-Some.result _ _
    (λ f h. IfSome_then f h (λ x g. declaration_made c.in-Some.ensures g)) c.declaration-in-Some.ensures.found)

pub returns-in-Some-clause-only : goal.returns-in-Some-clause-only
returns-in-Some-clause-only c = λ form next then rest r.
    c.declaration-in-Some.ensures.only form next then rest (declaration_behind c.in-Some.ensures (rw c.in-Statement.is at r))

pub returns-in-None-2-clause-only : goal.returns-in-None-2-clause-only
returns-in-None-2-clause-only c = λ form next then rest r.
    let p = statement_parts c.in-None.ensures (rw c.in-Statement.is at r) in
    rw c.in-None-2.is at (c.in_ok-simple-in-None.ensures.only form rest p.simple)

pub returns-in-Some-2-clause-found : goal.returns-in-Some-2-clause-found
returns-in-Some-2-clause-found c = rw c.in-Statement.is (a_statement (rw c.in-Some-2.is at c.in_ok-simple-in-None.ensures.found))

pub returns-in-Some-2-clause-only : goal.returns-in-Some-2-clause-only
returns-in-Some-2-clause-only c = λ form next then rest r.
    let p = statement_parts c.in-None.ensures (rw c.in-Statement.is at r) in
    let same = rw c.in-Some-2.is at (c.in_ok-simple-in-None.ensures.only form rest p.simple) in
    (same.0, sym p.next_is, sym p.names_are, same.1)
