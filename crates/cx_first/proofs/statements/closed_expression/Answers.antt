use Rattle.cx_first.specs.declared.terminals.Terminal.TheVariants as terminal_is
use Rattle.cx_first.proofs.StatementLaws.{semicolon_ends}
use Rattle.cx_first.proofs.statements.closed_expression.Goals as goal

pub returns-in-None-clause-only : goal.returns-in-None-clause-only
returns-in-None-clause-only c = λ t rest e.
    rw c.in-None.is at (c.in_ok-expression.ensures.only t terminal_is.Semicolon rest e semicolon_ends)

pub returns-in-Semicolon-clause-only : goal.returns-in-Semicolon-clause-only
returns-in-Semicolon-clause-only c = λ t rest e.
    let same = rw c.in-Some.is at (c.in_ok-expression.ensures.only t terminal_is.Semicolon rest e semicolon_ends) in
    (same.0, same.2)

pub returns-in_default : goal.returns-in_default
returns-in_default c = record {
  found = tt;
  only = λ t rest e.
      let same = rw c.in-Some.is at (c.in_ok-expression.ensures.only t terminal_is.Semicolon rest e semicolon_ends) in
      c.in_default.not-Semicolon same.1;
  shorter = tt;
}
