use Rattle.std.proofs.Common.{ap, sym, ◌∙◌}
use Rattle.cx_lines.specs.Kinds.{kind_of}
use Rattle.cx_configs.specs.Questions.{group_names}
use Rattle.cx_configs.specs.Shapes.Sets.{with_names}
use Rattle.cx_configs.proofs.GroupLaws.{asks_nothing, no_names_more}
use Rattle.cx_configs.proofs.asked.add_group_names.Goals as goal

pub returns-in_default : goal.returns-in_default
unfolding group_names
returns-in_default c =
    sym (ap (with_names c.args.settled.now c.args.names.now)
    (asks_nothing (kind_of c.args.start.now) _ (λ e. c.in_default.not-If (c.kind_of.ensures ∙ e)) (λ e. c.in_default.not-Elif (c.kind_of.ensures ∙ e))
    (λ e. c.in_default.not-Ifdef (c.kind_of.ensures ∙ e)) (λ e. c.in_default.not-Else (c.kind_of.ensures ∙ e)))
    ∙ no_names_more c.args.settled.now c.args.names.now)
