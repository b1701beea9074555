use Rattle.std.proofs.Common.{[], ◌∷◌, ◌++◌, refl, ap, ◌∙◌}
use Rattle.cx_tokens.specs.Nodes.{new_node}
use Rattle.cx_macro.specs.Shapes.Levels.{Standing}
use Rattle.cx_macro.proofs.LevelLaws as laws
use Rattle.cx_macro.proofs.level.Level.keep.Goals as goal

pub invariant_of-self-2 : goal.invariant_of-self-2
invariant_of-self-2 c =
    let x = new_node c.in_ok-node.node c.args.token in (
      c.in_ok-node.ensures.live,
      laws.keep_alone c.self.inside.last x c.self.inside.list.nodes c.insert_after.new.self.nodes c.in_ok-node.ensures.ok c.self.invariant.0 c.in_ok-node.ensures.fresh refl
          c.self.invariant.1,
    )

pub returns : goal.returns
returns c =
    let x = new_node c.in_ok-node.node c.args.token in (
      laws.keep_done c.self.inside.last x c.self.inside.list.nodes c.insert_after.new.self.nodes c.in_ok-node.ensures.ok c.self.invariant.0 c.in_ok-node.ensures.fresh
          ∙ ap (λ (s : Standing). s.done ++ c.args.token ∷ []) c.self.view_is,
      laws.keep_ahead c.self.inside.last x c.self.inside.list.nodes c.insert_after.new.self.nodes c.in_ok-node.ensures.ok c.self.invariant.0 c.in_ok-node.ensures.fresh
          ∙ ap (λ (s : Standing). s.ahead) c.self.view_is,
    )
