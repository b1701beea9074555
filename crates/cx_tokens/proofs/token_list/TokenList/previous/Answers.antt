use Rattle.std.proofs.Common.{◌≡◌, ◌∙◌, ap, subst, sym, IfSome, IsTrue, true}
use Rattle.cx_tokens.specs.Nodes.{StandsFrom, is_live, last_of, nodes_before}
use Rattle.cx_tokens.proofs.PlaceLaws.{order_previous}
use Rattle.cx_tokens.proofs.LinkSteps.{index_within, last_lives, read_there, view_nodes}
use Rattle.cx_tokens.proofs.token_list.TokenList.previous.Goals as goal

pub index-requires : goal.index-requires
index-requires c =
    let i = c.self.inside in
    let h = c.self.invariant.links in
    let nodes : h.nodes ≡ c.args.self.now.nodes = sym (view_nodes i.slots.items i.first i.len i.free i.spare h) ∙ ap (λ v. v.nodes) c.self.view_is in
    let live : is_live c.args.at h.nodes ≡ true = subst (λ t. is_live c.args.at t ≡ true) (sym nodes) c.requires.live in
    index_within i.slots.items i.slots.len h.nodes c.args.at c.number.result live h.linked c.number.ensures i.slots.ok.0

pub returns-clause-node : goal.returns-clause-node
returns-clause-node c =
    let i = c.self.inside in
    let h = c.self.invariant.links in
    let nodes : h.nodes ≡ c.args.self.now.nodes = sym (view_nodes i.slots.items i.first i.len i.free i.spare h) ∙ ap (λ v. v.nodes) c.self.view_is in
    let live : is_live c.args.at h.nodes ≡ true = subst (λ t. is_live c.args.at t ≡ true) (sym nodes) c.requires.live in
    let t = read_there i.slots.items h.nodes c.args.at c.number.result c.index.result.now live h.linked c.number.ensures c.index.ensures in
    c.node_of.ensures ∙ sym t.previous ∙ ap (λ t. last_of (nodes_before c.args.at t)) nodes

pub returns-clause-live : goal.returns-clause-live
returns-clause-live c =
    let i = c.self.inside in
    let h = c.self.invariant.links in
    let nodes : h.nodes ≡ c.args.self.now.nodes = sym (view_nodes i.slots.items i.first i.len i.free i.spare h) ∙ ap (λ v. v.nodes) c.self.view_is in
    let live : is_live c.args.at h.nodes ≡ true = subst (λ t. is_live c.args.at t ≡ true) (sym nodes) c.requires.live in
    let t = read_there i.slots.items h.nodes c.args.at c.number.result c.index.result.now live h.linked c.number.ensures c.index.ensures in
    subst (λ t. IfSome c.node_of.result (λ n. IsTrue (is_live n t))) nodes (last_lives c.args.at h.nodes c.node_of.result live (c.node_of.ensures ∙ sym t.previous))

pub returns-clause-order : goal.returns-clause-order
returns-clause-order c =
    let i = c.self.inside in
    let h = c.self.invariant.links in
    let nodes : h.nodes ≡ c.args.self.now.nodes = sym (view_nodes i.slots.items i.first i.len i.free i.spare h) ∙ ap (λ v. v.nodes) c.self.view_is in
    let live : is_live c.args.at h.nodes ≡ true = subst (λ t. is_live c.args.at t ≡ true) (sym nodes) c.requires.live in
    let t = read_there i.slots.items h.nodes c.args.at c.number.result c.index.result.now live h.linked c.number.ensures c.index.ensures in
    subst (λ t. IfSome c.node_of.result (λ n. StandsFrom n c.args.at t)) nodes (order_previous c.args.at h.nodes c.node_of.result live (c.node_of.ensures ∙ sym t.previous))
