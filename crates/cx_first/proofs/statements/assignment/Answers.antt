use Rattle.std.proofs.Common.{sym, subst}
use Rattle.cx_first.specs.declared.terminals.Terminal.TheVariants as terminal_is
use Rattle.cx_first.specs.Grammar.{Expression}
use Rattle.cx_first.proofs.DescentLaws.{terminal_same}
use Rattle.cx_first.proofs.StatementLaws.{assigned_parts, assigned_made, assigns_same}
use Rattle.cx_first.proofs.statements.assignment.Goals as goal

pub returns-in_default-after_terminal-clause-only : goal.returns-in_default-after_terminal-clause-only
returns-in_default-after_terminal-clause-only c = λ form rest s.
    let p = assigned_parts c.requires.name s in c.in_default-after_terminal.ensures p.behind p.equals

pub returns-in-None-clause-only : goal.returns-in-None-clause-only
returns-in-None-clause-only c = λ form rest s.
    let p = assigned_parts c.requires.name s in
    let same = terminal_same _ _ _ _ p.equals.token c.in-Some-after_terminal.ensures p.equals.whole in
    rw c.in-None.is at (c.in_ok-closed_expression.ensures.only p.tree rest
    (subst (λ x. Expression c.args.limit c.args.names.now x p.tree terminal_is.Semicolon rest) (sym same) p.expression))

pub returns-in-Some-2-clause-found : goal.returns-in-Some-2-clause-found
returns-in-Some-2-clause-found c =
    assigned_made _ _ _ _ _ _ _ _ c.requires.name (rw c.as_slice.ensures at c.in-Some.ensures) c.in-Some-after_terminal.ensures
    (rw c.in-Some-2.is at c.in_ok-closed_expression.ensures.found)

pub returns-in-Some-2-clause-only : goal.returns-in-Some-2-clause-only
returns-in-Some-2-clause-only c = λ form rest s.
    let p = assigned_parts c.requires.name s in
    let same = terminal_same _ _ _ _ p.equals.token c.in-Some-after_terminal.ensures p.equals.whole in
    let value = rw c.in-Some-2.is at (c.in_ok-closed_expression.ensures.only p.tree rest
    (subst (λ x. Expression c.args.limit c.args.names.now x p.tree terminal_is.Semicolon rest) (sym same) p.expression)) in
    (assigns_same _ _ _ _ _ _ _ (rw c.as_slice.ensures at c.in-Some.ensures) p.named value.0 p.is, value.1)
