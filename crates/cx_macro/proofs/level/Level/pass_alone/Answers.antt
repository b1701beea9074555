use Rattle.std.proofs.Common.{[], ◌∷◌, ◌++◌, sym, ap, ◌∙◌}
use Rattle.cx_macro.specs.Shapes.Levels.{Standing}
use Rattle.cx_macro.proofs.LevelLaws as laws
use Rattle.cx_macro.proofs.level.Level.pass_alone.Goals as goal

pub invariant_of-self : goal.invariant_of-self
invariant_of-self c =
    let f = laws.first_is c.self.inside.last c.self.inside.list.nodes c.in-Some.node c.are_numbered.ensures c.self.invariant.0 c.in-Some.ensures.node in (
      c.in-Some.ensures.live,
      laws.pass_alone c.self.inside.last c.self.inside.list.nodes c.in-Some.node f
          (sym c.partner.ensures.node ∙ laws.none_from _ (sym c.is_some.ensures ∙ c.if-is_some.false)) c.self.invariant.1,
    )

pub returns-clause-passed : goal.returns-clause-passed
returns-clause-passed c =
    let f = laws.first_is c.self.inside.last c.self.inside.list.nodes c.in-Some.node c.are_numbered.ensures c.self.invariant.0 c.in-Some.ensures.node in
    λ _ t rest ahead.
    let p = laws.pass_done c.self.inside.last c.self.inside.list.nodes c.in-Some.node t rest f (ap (λ (s : Standing). s.ahead) c.self.view_is ∙ ahead) in (
      p.0 ∙ ap (λ (s : Standing). s.done ++ t ∷ []) c.self.view_is,
      p.1,
    )
