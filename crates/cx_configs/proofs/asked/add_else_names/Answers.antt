use Rattle.std.proofs.Common.{ap, sym, ◌∙◌}
use Rattle.cx_lines.specs.Kinds.{kind_of}
use Rattle.cx_configs.specs.Shapes.Sets.{with_names}
use Rattle.cx_configs.proofs.GroupLaws.{else_asks_nothing, no_names_more}
use Rattle.cx_configs.proofs.asked.add_else_names.Goals as goal

pub returns-in_default : goal.returns-in_default
returns-in_default c =
    sym (ap (with_names c.args.settled.now c.args.names.now)
    (else_asks_nothing (kind_of c.args.opening.now) c.args.opening.now (λ e. c.in_default.not-Ifndef (c.kind_of.ensures ∙ e)))
    ∙ no_names_more c.args.settled.now c.args.names.now)
