use Rattle.std.proofs.Common.{refl, sym, subst}
use Rattle.cx_first.specs.declared.terminals.Terminal.TheVariants as terminal_is
use Rattle.cx_first.specs.Descent.{TerminalAt, NoTerminal, NoOpening}
use Rattle.cx_first.proofs.ReaderLaws.{terminal_along, none_of}
use Rattle.cx_first.proofs.reader.opening.Goals as goal

pub returns-in_default-clause-none : goal.returns-in_default-clause-none
returns-in_default-clause-none c = λ rest h. c.in_default.ensures h.behind_open h.opening

pub returns-in_default-after_terminal-clause-none : goal.returns-in_default-after_terminal-clause-none
returns-in_default-after_terminal-clause-none c = λ rest h.
    let a = terminal_along _ _ _ _ _ c.in-Some.ensures h.opening refl in
    c.in_default-after_terminal.ensures h.behind_void (subst (λ x. TerminalAt terminal_is.Void x h.behind_void) (sym a) h.void)

pub returns-in_default-after_terminal-2-clause-none : goal.returns-in_default-after_terminal-2-clause-none
returns-in_default-after_terminal-2-clause-none c = λ rest h.
    let a = terminal_along _ _ _ _ _ c.in-Some.ensures h.opening refl in
    let b = terminal_along _ _ _ _ _ c.in-Some-after_terminal.ensures h.void a in
    c.in_default-after_terminal-2.ensures h.behind_close (subst (λ x. TerminalAt terminal_is.Close x h.behind_close) (sym b) h.closing)

pub returns-clause-none : goal.returns-clause-none
returns-clause-none c = none_of c.after_terminal-4.result (NoTerminal terminal_is.Begin c.in-Some-after_terminal-2.rest.now) (NoOpening c.args.tokens.now) _ c.after_terminal-4.ensures (λ none rest h.
    let a = terminal_along _ _ _ _ _ c.in-Some.ensures h.opening refl in
    let b = terminal_along _ _ _ _ _ c.in-Some-after_terminal.ensures h.void a in
    let d = terminal_along _ _ _ _ _ c.in-Some-after_terminal-2.ensures h.closing b in
    none rest (subst (λ x. TerminalAt terminal_is.Begin x rest) (sym d) h.beginning))
