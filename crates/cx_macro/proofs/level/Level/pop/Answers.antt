use Rattle.std.proofs.Common.{sym, ap, ◌∙◌}
use Rattle.cx_macro.specs.Shapes.Levels.{Standing}
use Rattle.cx_macro.proofs.LevelLaws as laws
use Rattle.cx_macro.proofs.level.Level.pop.Goals as goal

pub invariant_of-self : goal.invariant_of-self
invariant_of-self c =
    let f = laws.first_is c.self.inside.last c.self.inside.list.nodes c.in_ok-node.node c.are_numbered.ensures c.self.invariant.0 c.in_ok-node.ensures.node in (
      laws.pop_last c.self.inside.last c.self.inside.list.nodes c.erase.new.self.nodes c.in_ok-node.node f c.self.invariant.0 c.erase.ensures.rest,
      laws.pop_alone c.self.inside.last c.self.inside.list.nodes c.erase.new.self.nodes c.in_ok-node.node f c.self.invariant.0 c.erase.ensures.rest c.self.invariant.1,
    )

pub returns : goal.returns
returns c =
    let f = laws.first_is c.self.inside.last c.self.inside.list.nodes c.in_ok-node.node c.are_numbered.ensures c.self.invariant.0 c.in_ok-node.ensures.node in (
      sym (ap (λ (s : Standing). s.ahead) c.self.view_is)
          ∙ laws.pop_ahead c.self.inside.last c.self.inside.list.nodes c.erase.new.self.nodes c.in_ok-node.node c.erase.result f c.self.invariant.0 c.erase.ensures.rest c.erase.ensures.token,
      laws.pop_done c.self.inside.last c.self.inside.list.nodes c.erase.new.self.nodes c.in_ok-node.node f c.self.invariant.0 c.erase.ensures.rest
          ∙ ap (λ (s : Standing). s.done) c.self.view_is,
    )
