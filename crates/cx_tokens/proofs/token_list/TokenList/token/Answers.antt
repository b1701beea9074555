use Rattle.std.proofs.Common.{◌≡◌, ◌∙◌, ap, subst, sym, true}
use Rattle.std.specs.Option.{is_some, option_copied}
use Rattle.cx_tokens.specs.Nodes.{is_live, token_of}
use Rattle.cx_tokens.proofs.LinkSteps.{index_within, read_there, view_nodes}
use Rattle.cx_tokens.proofs.token_list.TokenList.token.Goals as goal

pub index-requires : goal.index-requires
index-requires c =
    let i = c.self.inside in
    let h = c.self.invariant.links in
    let nodes : h.nodes ≡ c.args.self.now.nodes = sym (view_nodes i.slots.items i.first i.len i.free i.spare h) ∙ ap (λ v. v.nodes) c.self.view_is in
    let live : is_live c.args.at h.nodes ≡ true = subst (λ t. is_live c.args.at t ≡ true) (sym nodes) c.requires.live in
    index_within i.slots.items i.slots.len h.nodes c.args.at c.number.result live h.linked c.number.ensures i.slots.ok.0

pub unwrap-requires : goal.unwrap-requires
unwrap-requires c =
    let i = c.self.inside in
    let h = c.self.invariant.links in
    let nodes : h.nodes ≡ c.args.self.now.nodes = sym (view_nodes i.slots.items i.first i.len i.free i.spare h) ∙ ap (λ v. v.nodes) c.self.view_is in
    let live : is_live c.args.at h.nodes ≡ true = subst (λ t. is_live c.args.at t ≡ true) (sym nodes) c.requires.live in
    let t = read_there i.slots.items h.nodes c.args.at c.number.result c.index.result.now live h.linked c.number.ensures c.index.ensures in
    c.as_ref.ensures.variant ∙ ap is_some t.some_token.1

pub returns : goal.returns
returns c =
    let i = c.self.inside in
    let h = c.self.invariant.links in
    let nodes : h.nodes ≡ c.args.self.now.nodes = sym (view_nodes i.slots.items i.first i.len i.free i.spare h) ∙ ap (λ v. v.nodes) c.self.view_is in
    let live : is_live c.args.at h.nodes ≡ true = subst (λ t. is_live c.args.at t ≡ true) (sym nodes) c.requires.live in
    let t = read_there i.slots.items h.nodes c.args.at c.number.result c.index.result.now live h.linked c.number.ensures c.index.ensures in
    ap (token_of c.args.at) (sym nodes) ∙ t.token ∙ sym c.as_ref.ensures.value ∙ ap option_copied c.unwrap.ensures
