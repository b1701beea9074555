use Rattle.std.proofs.Common.{◌∷◌, ap, ◌∙◌}
use Rattle.cx_tokens.specs.Nodes.{new_node}
use Rattle.cx_macro.specs.Shapes.Levels.{Standing}
use Rattle.cx_macro.proofs.LevelLaws as laws
use Rattle.cx_macro.proofs.level.Level.push.Goals as goal

pub invariant_of-self-2 : goal.invariant_of-self-2
invariant_of-self-2 c =
    let x = new_node c.in_ok-_node._node c.args.token in (
      laws.put_last c.self.inside.last x c.self.inside.list.nodes c.insert_after.new.self.nodes c.in_ok-_node.ensures.ok c.self.invariant.0,
      laws.put_alone c.self.inside.last x c.self.inside.list.nodes c.insert_after.new.self.nodes c.in_ok-_node.ensures.ok c.self.invariant.0 c.self.invariant.1,
    )

pub returns : goal.returns
returns c =
    let x = new_node c.in_ok-_node._node c.args.token in (
      laws.put_done c.self.inside.last x c.self.inside.list.nodes c.insert_after.new.self.nodes c.in_ok-_node.ensures.ok c.self.invariant.0
          ∙ ap (λ (s : Standing). s.done) c.self.view_is,
      laws.put_ahead c.self.inside.last x c.self.inside.list.nodes c.insert_after.new.self.nodes c.in_ok-_node.ensures.ok c.self.invariant.0
          ∙ ap (λ (s : Standing). c.args.token ∷ s.ahead) c.self.view_is,
    )
