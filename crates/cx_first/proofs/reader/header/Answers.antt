use Rattle.std.proofs.Common.{refl, sym, ◌∙◌, subst}
use Rattle.cx_first.specs.declared.terminals.Terminal.TheVariants as terminal_is
use Rattle.cx_first.specs.Descent.{TerminalAt, OpeningAt}
use Rattle.cx_first.proofs.ReaderLaws.{terminal_along}
use Rattle.cx_first.proofs.reader.header.Goals as goal

pub returns-in_default-clause-none : goal.returns-in_default-clause-none
returns-in_default-clause-none c = λ name rest h. c.in_default.ensures h.behind_int h.int

pub returns-in_default-after_terminal-clause-none : goal.returns-in_default-after_terminal-clause-none
returns-in_default-after_terminal-clause-none c = λ name rest h.
    let a = terminal_along _ _ _ _ _ c.in-Some.ensures h.int refl in
    let named : TerminalAt terminal_is.Name c.in-Some.named.now h.behind_name = record { token = name; whole = a ∙ h.named; signed = h.signed } in
    c.in_default-after_terminal.ensures h.behind_name named

pub returns-in-None-clause-none : goal.returns-in-None-clause-none
returns-in-None-clause-none c = λ name rest h.
    let a = terminal_along _ _ _ _ _ c.in-Some.ensures h.int refl in
    let named : TerminalAt terminal_is.Name c.in-Some.named.now h.behind_name = record { token = name; whole = a ∙ h.named; signed = h.signed } in
    let b = terminal_along _ _ _ _ _ c.in-Some-after_terminal.ensures named refl in
    c.in-None.ensures.none rest (subst (λ x. OpeningAt x rest) (sym b) h.opening)
