use Rattle.std.proofs.Common.{◌∙◌, sym}
use Rattle.cx_macro.proofs.FrameLaws as laws
use Rattle.cx_macro.proofs.frames.Frames.with.Goals as goal

pub returns-then-is_close : goal.returns-then-is_close
returns-then-is_close c = λ ts a.
    laws.added_close c.args.self ts c.args.token.now _ _ _ _ a c.in_ok-len.ensures (sym c.is_close.ensures ∙ c.if-is_close.true) c.in_ok-share.ensures c.new.ensures
    c.in_ok-push.ensures.ok

pub returns-then-is_open : goal.returns-then-is_open
returns-then-is_open c = λ ts a.
    laws.added_open c.args.self ts c.args.token.now _ _ _ _ a c.in_ok-len.ensures (sym c.is_open.ensures ∙ c.if-is_open.true) c.pop.ensures c.in_ok-push-2.ensures.ok

pub returns-then-is_comma : goal.returns-then-is_comma
returns-then-is_comma c = λ ts a.
    laws.added_comma c.args.self ts c.args.token.now _ _ a c.in_ok-len.ensures (sym c.is_close.ensures ∙ c.if-is_close.false)
    (sym c.is_open.ensures ∙ c.if-is_open.false) (sym c.is_comma.ensures ∙ c.if-is_comma.true) c.in_ok-put_comma.ensures

pub returns : goal.returns
returns c = λ ts a.
    laws.added_plain c.args.self ts c.args.token.now _ a c.in_ok-len.ensures (sym c.is_close.ensures ∙ c.if-is_close.false)
    (sym c.is_open.ensures ∙ c.if-is_open.false) (sym c.is_comma.ensures ∙ c.if-is_comma.false)
