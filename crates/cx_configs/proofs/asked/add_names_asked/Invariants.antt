use Rattle.std.proofs.Common.{◌≡◌, false, length}
use Rattle.cx_directive.specs.Operands.{tokens_of}
use Rattle.cx_configs.specs.Questions.{names_asked}
use Rattle.cx_configs.specs.Shapes.Sets.{with_names}
use Rattle.cx_configs.proofs.asked.add_names_asked.Given as goal

abbrev pub invariant-loop-piece : goal.invariant-loop-piece
invariant-loop-piece l =
    with_names l.settled l.names (names_asked l.is_negated (tokens_of l.left))
    ≡ with_names l.settled l.fn.names (names_asked false (tokens_of l.condition))

abbrev pub decreases-loop-piece : goal.decreases-loop-piece
decreases-loop-piece l = length l.left
