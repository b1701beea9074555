use Rattle.std.proofs.Common.{ap, ◌∙◌}
use Rattle.cx_macro.specs.Shapes.Levels.{Standing}
use Rattle.cx_macro.proofs.WalkLaws.{walk_ahead}
use Rattle.cx_macro.proofs.level.Level.walk.Goals as goal

pub returns : goal.returns
returns c =
    c.from.ensures ∙ (walk_ahead c.self.inside.last c.node_ahead.result c.self.inside.list.nodes c.are_numbered.ensures c.self.invariant.0 c.node_ahead.ensures.node
    ∙ ap (λ (s : Standing). s.ahead) c.self.view_is)
