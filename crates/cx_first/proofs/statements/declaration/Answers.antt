use Rattle.std.proofs.Common.{◌≡◌, Some, None, sym, ◌∙◌, ap}
use Rattle.cx_first.specs.Grammar.{a_declarator, follows}
use Rattle.cx_first.proofs.StatementLaws.{declaration_parts, follows_ends}
use Rattle.cx_first.proofs.statements.declaration.Goals as goal

pub returns-in-None-clause-only : goal.returns-in-None-clause-only
returns-in-None-clause-only c = λ form next then rest r.
    let p = declaration_parts r in
    rw c.in-None.is at (c.in_ok-declarator.ensures.only form p.mark then rest p.declarator (follows_ends p.mark next p.follow))

pub returns-in-None-follows-clause-only : goal.returns-in-None-follows-clause-only
returns-in-None-follows-clause-only c = λ form next then rest r.
    let p = declaration_parts r in
    let same = rw c.in-Some.is at (c.in_ok-declarator.ensures.only form p.mark then rest p.declarator (follows_ends p.mark next p.follow)) in
    let k : None ≡ Some next = c.in-None-follows.ensures ∙ (ap follows same.1 ∙ p.follow) in absurd cc

pub returns-in-Some-follows-clause-found : goal.returns-in-Some-follows-clause-found
returns-in-Some-follows-clause-found c =
    a_declarator (rw c.in-Some.is at c.in_ok-declarator.ensures.found) (sym c.in-Some-follows.ensures)

pub returns-in-Some-follows-clause-only : goal.returns-in-Some-follows-clause-only
returns-in-Some-follows-clause-only c = λ form next then rest r.
    let p = declaration_parts r in
    let same = rw c.in-Some.is at (c.in_ok-declarator.ensures.only form p.mark then rest p.declarator (follows_ends p.mark next p.follow)) in
    let k : Some c.in-Some-follows.next ≡ Some next = c.in-Some-follows.ensures ∙ (ap follows same.1 ∙ p.follow) in
    (same.0, cc, same.2, same.3)
