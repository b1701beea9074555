use Rattle.std.proofs.Common.{None, ◌∙◌}
use Rattle.cx_macro.proofs.WalkLaws.{walk_ahead}
use Rattle.cx_macro.proofs.walk.Walk.over.Goals as goal

pub returns : goal.returns
returns c = c.from.ensures ∙ walk_ahead None c.first.result c.args.list.now.nodes c.are_numbered.ensures tt c.first.ensures.node
