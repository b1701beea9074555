use Rattle.std.proofs.Common.{◌∙◌, sym, subst}
use Rattle.cx_macro.specs.Shapes.Steps.{MeaningIs}
use Rattle.cx_macro.proofs.InvocationLaws.{use_name, use_none}
use Rattle.cx_macro.proofs.steps.invoked_by.Goals as goal

pub returns-in-Itself : goal.returns-in-Itself
returns-in-Itself c = λ table t m. use_none table t c.args.behind (subst (MeaningIs table t) c.in-Itself.is m)

pub returns-else-is_bracket_next : goal.returns-else-is_bracket_next
returns-else-is_bracket_next c = λ table t m.
    use_name table t c.args.behind _ _ (subst (MeaningIs table t) c.in-Macro.is m) c.in-Some.ensures (sym c.is_bracket_next.ensures ∙ c.if-is_bracket_next.false)
