use Rattle.std.proofs.Common.{◌≡◌, ◌∷◌, None, suc, sym, ◌∙◌, ap, arith}
use Rattle.cx_macro.specs.Shapes.Walks.{walked}
use Rattle.cx_macro.specs.declared.walk.Walk.TheInside.{Inside}
use Rattle.cx_macro.proofs.WalkLaws.{pass_all, pass_one, walk_first}
use Rattle.cx_macro.proofs.walk.Walk.next.Goals as goal
use Rattle.cx_macro.proofs.walk.Walk.next.Goals.{in-Some+in_ok-checked_sub, in_default}

pub returns : goal.returns
returns c =
    let nodes = c.self.inside.list.now.nodes in
    let next = c.next-self-inside.result in
    let t = c.token.result.now in
    let all : walked None c.self.inside.at nodes ≡ t ∷ walked None next nodes =
    walk_first c.self.inside.at next c.in_ok-node.node nodes t c.are_numbered.ensures c.self.invariant c.in_ok-node.was c.token.ensures c.next-self-inside.ensures.node in
    elim c.match-self.branch [
      | in-Some+in_ok-checked_sub w ↦
          let one_more : w.in-Some.left ≡ suc w.in_ok-checked_sub.field-0 = omega (arith, w.in_ok-checked_sub.ensures) in
          sym c.self.view_is
          ∙ (pass_one c.self.inside.left c.match-self.self-inside.left w.in-Some.left w.in_ok-checked_sub.field-0 (walked None c.self.inside.at nodes)
          (walked None next nodes) t all w.in-Some.is one_more (ap (λ (i : Inside). i.left) w.self-inside-is)
          ∙ ap (λ (i : Inside). t ∷ walked c.match-self.self-inside.left next i.list.now.nodes) (sym w.self-inside-is))
      | in_default w ↦
          sym c.self.view_is
          ∙ (pass_all c.self.inside.left c.match-self.self-inside.left (walked None c.self.inside.at nodes) (walked None next nodes) t all w.in_default.is
          (ap (λ (i : Inside). i.left) w.self-inside-is ∙ w.in_default.is)
          ∙ ap (λ (i : Inside). t ∷ walked c.match-self.self-inside.left next i.list.now.nodes) (sym w.self-inside-is))
    ]
