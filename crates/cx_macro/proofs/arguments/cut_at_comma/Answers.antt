use Rattle.std.proofs.Common.{◌-◌, refl, ap, ◌∙◌}
use Rattle.std.proofs.lemmas.Option.{MatchOption-at_none}
use Rattle.cx_macro.proofs.FrameLaws as laws
use Rattle.cx_macro.proofs.arguments.cut_at_comma.Goals as goal

pub returns-in_default : goal.returns-in_default
returns-in_default c = λ ts end i.
    laws.inner_last c.args.text ts end _ i (MatchOption-at_none _ _ c.in_default.is c.first_comma.ensures) (c.len.ensures ts end i)

pub returns : goal.returns
returns c = λ ts end i.
    laws.inner_next c.args.text (record { left = c.in-Some.comma; behind = c.args.text.behind; commas = c.in-Some.commas }) ts end c.saturating_sub-front.result
    c.in-Some.comma i c.in-Some.ensures refl refl (c.saturating_sub-front.ensures ∙ ap (λ n. n - 1) c.saturating_sub.ensures)
