use Rattle.cx_tokens.specs.Nodes.{tokens}
use Rattle.cx_macro.proofs.AnswerLaws.{answers}
use Rattle.cx_macro.proofs.macros.Macros.expand_within.Goals as goal

pub returns-clause-only : goal.returns-clause-only
returns-clause-only c = answers c.args.self.now c.args.bound c.args.laid (tokens c.args.list.nodes) _ c.expansion.ensures.ok c.expansion.ensures.fault
