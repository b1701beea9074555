use Rattle.std.proofs.Common.{◌≡◌, ◌∙◌, ap, arith, subst, sym, None, true}
use Rattle.cx_tokens.specs.Nodes.{is_live}
use Rattle.cx_tokens.specs.Shapes.Links.{walk}
use Rattle.cx_tokens.specs.Shapes.Pairing.{IsUsed}
use Rattle.cx_tokens.specs.Shapes.Sweeping.{SetsText}
use Rattle.cx_tokens.proofs.LinkLaws.{linked_look}
use Rattle.cx_tokens.proofs.LinkSteps.{view_nodes}
use Rattle.cx_tokens.proofs.TextLaws.{text_links}
use Rattle.cx_tokens.proofs.token_list.TokenList.set_text.Goals as goal

pub set_text-requires : goal.set_text-requires
set_text-requires c =
    let i = c.self.inside in
    let h = c.self.invariant.links in
    let nodes : h.nodes ≡ c.args.self.now.nodes = sym (view_nodes i.slots.items i.first i.len i.free i.spare h) ∙ ap (λ v. v.nodes) c.self.view_is in
    let live : is_live c.args.at h.nodes ≡ true = subst (λ t. is_live c.args.at t ≡ true) (sym nodes) c.requires.live in
    let r = linked_look c.args.at i.slots.items None h.nodes None h.linked live in
    subst (IsUsed i.slots.items) (sym c.number.ensures) (r.0, r.2, r.1, r.3)

pub invariant_of-self : goal.invariant_of-self
invariant_of-self c =
    let i = c.self.inside in
    let h = c.self.invariant.links in
    let nodes : h.nodes ≡ c.args.self.now.nodes = sym (view_nodes i.slots.items i.first i.len i.free i.spare h) ∙ ap (λ v. v.nodes) c.self.view_is in
    let live : is_live c.args.at h.nodes ≡ true = subst (λ t. is_live c.args.at t ≡ true) (sym nodes) c.requires.live in
    let p = text_links i.slots.items c.set_text.new.slots.items i.first i.len i.free i.spare h c.args.at c.number.result c.args.text c.args.parts live c.number.ensures c.set_text.ensures in
    record {
      links = p.links;
      enough = (let a = p.links.all in let b = h.all in let d = c.self.invariant.enough in omega (arith, a, b, d));
      none_open = c.self.invariant.none_open;
    }

pub returns : goal.returns
returns c =
    let i = c.self.inside in
    let h = c.self.invariant.links in
    let nodes : h.nodes ≡ c.args.self.now.nodes = sym (view_nodes i.slots.items i.first i.len i.free i.spare h) ∙ ap (λ v. v.nodes) c.self.view_is in
    let live : is_live c.args.at h.nodes ≡ true = subst (λ t. is_live c.args.at t ≡ true) (sym nodes) c.requires.live in
    let p = text_links i.slots.items c.set_text.new.slots.items i.first i.len i.free i.spare h c.args.at c.number.result c.args.text c.args.parts live c.number.ensures c.set_text.ensures in
    subst (λ t. SetsText c.args.at c.args.text c.args.parts t (walk i.len i.first c.set_text.new.slots.items)) nodes
    (subst (SetsText c.args.at c.args.text c.args.parts h.nodes) (sym (view_nodes c.set_text.new.slots.items i.first i.len i.free i.spare p.links)) p.sets)
