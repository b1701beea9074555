use Rattle.std.proofs.Common.{◌≡◌, ◌∙◌, ap, subst, sym}
use Rattle.cx_tokens.specs.Nodes.{IsTokenList}
use Rattle.cx_tokens.proofs.LinkSteps.{view_nodes}
use Rattle.cx_tokens.proofs.token_list.TokenList.are_numbered.Goals as goal

pub returns : goal.returns
returns c =
    let i = c.self.inside in
    let h = c.self.invariant.links in
    let nodes : h.nodes ≡ c.args.self.now.nodes = sym (view_nodes i.slots.items i.first i.len i.free i.spare h) ∙ ap (λ v. v.nodes) c.self.view_is in
    subst IsTokenList nodes h.is_list
