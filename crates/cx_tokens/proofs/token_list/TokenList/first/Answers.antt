use Rattle.std.proofs.Common.{◌≡◌, ◌∙◌, ap, subst, sym, IfSome, IsTrue}
use Rattle.cx_tokens.specs.Nodes.{first_of, is_live}
use Rattle.cx_tokens.proofs.PlaceLaws.{first_live}
use Rattle.cx_tokens.proofs.LinkSteps.{view_nodes}
use Rattle.cx_tokens.proofs.token_list.TokenList.first.Goals as goal

pub returns-clause-node : goal.returns-clause-node
returns-clause-node c =
    let i = c.self.inside in
    let h = c.self.invariant.links in
    let nodes : h.nodes ≡ c.args.self.now.nodes = sym (view_nodes i.slots.items i.first i.len i.free i.spare h) ∙ ap (λ v. v.nodes) c.self.view_is in
    c.node_of.ensures ∙ h.first_is ∙ ap first_of nodes

pub returns-clause-live : goal.returns-clause-live
returns-clause-live c =
    let i = c.self.inside in
    let h = c.self.invariant.links in
    let nodes : h.nodes ≡ c.args.self.now.nodes = sym (view_nodes i.slots.items i.first i.len i.free i.spare h) ∙ ap (λ v. v.nodes) c.self.view_is in
    subst (λ o. IfSome o (λ n. IsTrue (is_live n c.args.self.now.nodes))) (sym (c.node_of.ensures ∙ h.first_is ∙ ap first_of nodes)) (first_live c.args.self.now.nodes)
