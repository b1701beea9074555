use Rattle.std.proofs.Common.{◌∙◌, sym}
use Rattle.cx_macro.proofs.FrameLaws as laws
use Rattle.cx_macro.proofs.frames.Frames.behind.Goals as goal

pub returns-then-is_close : goal.returns-then-is_close
returns-then-is_close c = λ ts a.
    laws.passed_close c.args.self ts c.args.token.now _ _ _ a c.saturating_sub-len.ensures (sym c.is_close.ensures ∙ c.if-is_close.true) c.pop-closing.ensures

pub returns-then-is_open : goal.returns-then-is_open
returns-then-is_open c = λ ts a.
    laws.passed_open c.args.self ts c.args.token.now _ _ _ a c.saturating_sub-len.ensures (sym c.is_open.ensures ∙ c.if-is_open.true) c.in_ok-go_in.ensures

pub returns-then-is_comma : goal.returns-then-is_comma
returns-then-is_comma c = λ ts a.
    laws.passed_comma c.args.self ts c.args.token.now _ _ a c.saturating_sub-len.ensures (sym c.is_close.ensures ∙ c.if-is_close.false)
    (sym c.is_open.ensures ∙ c.if-is_open.false) (sym c.is_comma.ensures ∙ c.if-is_comma.true) c.in_ok-take_comma.ensures

pub returns : goal.returns
returns c = λ ts a.
    laws.passed_plain c.args.self ts c.args.token.now _ a c.saturating_sub-len.ensures (sym c.is_close.ensures ∙ c.if-is_close.false)
    (sym c.is_open.ensures ∙ c.if-is_open.false) (sym c.is_comma.ensures ∙ c.if-is_comma.false)
