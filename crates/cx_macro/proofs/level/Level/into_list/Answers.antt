use Rattle.std.proofs.Common.{◌++◌, ap, ◌∙◌}
use Rattle.std.proofs.lemmas.List.{map-append}
use Rattle.cx_tokens.specs.Nodes.{TokenNode, tokens}
use Rattle.cx_macro.specs.Shapes.Levels.{Standing, nodes_ahead, nodes_done}
use Rattle.cx_macro.proofs.LevelLaws as laws
use Rattle.cx_macro.proofs.level.Level.into_list.Goals as goal

pub returns-clause-partners : goal.returns-clause-partners
returns-clause-partners c = λ e. laws.end_alone c.self.inside.last c.self.inside.list.nodes c.self.invariant.0 c.self.invariant.1 (ap (λ (s : Standing). s.ahead) c.self.view_is ∙ e)

pub returns-clause-tokens : goal.returns-clause-tokens
returns-clause-tokens c =
    ap tokens (laws.whole c.self.inside.last c.self.inside.list.nodes c.self.invariant.0)
    ∙ (map-append (λ (x : TokenNode). x.token) (nodes_done c.self.inside.last c.self.inside.list.nodes) (nodes_ahead c.self.inside.last c.self.inside.list.nodes)
    ∙ ap (λ (s : Standing). s.done ++ s.ahead) c.self.view_is)
