use Rattle.std.proofs.Common.{arith, sym, ◌∙◌}
use Rattle.std.proofs.lemmas.Grind.{common_steps}
use Rattle.cx_tokens.specs.Nodes.{tokens}
use Rattle.cx_macro.proofs.BoundLaws.{list_too_long}
use Rattle.cx_macro.proofs.macros.first_laid.Goals as goal

pub returns-else-total-from-clause-fault : goal.returns-else-total-from-clause-fault
returns-else-total-from-clause-fault c = λ table n.
    list_too_long table c.args.bound c.args.laid c.in_ok-total.total c.in-Some.token.now c.next.new.self (tokens c.args.list.now.nodes) (sym c.over.ensures ∙ c.in-Some.ensures) (omega arith) (grind (arith, common_steps))
