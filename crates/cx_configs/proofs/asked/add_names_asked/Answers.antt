use Rattle.std.proofs.Common.{◌≡◌, [], ap, sym, ◌∙◌}
use Rattle.cx_directive.specs.Operands.{tokens_of}
use Rattle.cx_configs.specs.Questions.{names_asked}
use Rattle.cx_configs.specs.Shapes.Sets.{with_names}
use Rattle.cx_configs.proofs.GroupLaws.{asks_no_more, none_left}
use Rattle.cx_configs.proofs.asked.add_names_asked.Goals as goal

pub returns : goal.returns
returns c =
    let all : c.loop-piece.left.now ≡ [] = none_left _ c.in_default.ensures.cases in
    sym (ap (λ left. with_names c.args.settled.now c.loop-piece.names (names_asked c.loop-piece.is_negated (tokens_of left))) all
    ∙ asks_no_more c.args.settled.now c.loop-piece.names c.loop-piece.is_negated)
    ∙ c.loop-piece.invariant
