use Rattle.std.proofs.Common.{◌≡◌, ◌+◌, ◌-◌, ◌<◌, ◌∙◌, ap, arith, length, refl, subst, sym, Some, true}
use Rattle.std.specs.List.{slice_get}
use Rattle.std.specs.Prelude.{IsSome}
use Rattle.cx_tokens.specs.Nodes.{erased, is_live, token_of}
use Rattle.cx_tokens.proofs.LinkSteps.{live_long, live_within, slot_tells, slot_within, take_moved, view_nodes}
use Rattle.cx_tokens.proofs.token_list.TokenList.erase.Goals as goal

pub release-slot-requires-clause-number : goal.release-slot-requires-clause-number
release-slot-requires-clause-number c =
    let i = c.self.inside in
    let h = c.self.invariant.links in
    let nodes : h.nodes ≡ c.args.self.now.nodes = sym (view_nodes i.slots.items i.first i.len i.free i.spare h) ∙ ap (λ v. v.nodes) c.self.view_is in
    let live : is_live c.args.at h.nodes ≡ true = subst (λ t. is_live c.args.at t ≡ true) (sym nodes) c.requires.live in
    subst (λ n. n < length i.slots.items) (sym c.number-number.ensures) (live_within c.args.at i.slots.items h.nodes live h.linked)

pub release-slot-requires-clause-links : goal.release-slot-requires-clause-links
release-slot-requires-clause-links c =
    let i = c.self.inside in
    let h = c.self.invariant.links in
    let nodes : h.nodes ≡ c.args.self.now.nodes = sym (view_nodes i.slots.items i.first i.len i.free i.spare h) ∙ ap (λ v. v.nodes) c.self.view_is in
    let live : is_live c.args.at h.nodes ≡ true = subst (λ t. is_live c.args.at t ≡ true) (sym nodes) c.requires.live in
    λ x e. slot_within i.slots.items i.first i.len i.free i.spare h c.args.at x live (subst (λ n. slice_get i.slots.items n ≡ Some x) c.number-number.ensures e)

pub overflow_sub-self : goal.overflow_sub-self
overflow_sub-self c =
    let i = c.self.inside in
    let h = c.self.invariant.links in
    let nodes : h.nodes ≡ c.args.self.now.nodes = sym (view_nodes i.slots.items i.first i.len i.free i.spare h) ∙ ap (λ v. v.nodes) c.self.view_is in
    let live : is_live c.args.at h.nodes ≡ true = subst (λ t. is_live c.args.at t ≡ true) (sym nodes) c.requires.live in
    let k = live_long c.args.at h.nodes live in let m = h.len_is in omega (arith, k, m)

pub overflow_add-self : goal.overflow_add-self
overflow_add-self c =
    let i = c.self.inside in
    let h = c.self.invariant.links in
    let nodes : h.nodes ≡ c.args.self.now.nodes = sym (view_nodes i.slots.items i.first i.len i.free i.spare h) ∙ ap (λ v. v.nodes) c.self.view_is in
    let live : is_live c.args.at h.nodes ≡ true = subst (λ t. is_live c.args.at t ≡ true) (sym nodes) c.requires.live in
    let k = live_long c.args.at h.nodes live in let m = h.len_is in let a = h.all in let f = h.few in omega (arith, k, m, a, f)

pub unwrap-requires : goal.unwrap-requires
unwrap-requires c =
    let i = c.self.inside in
    let h = c.self.invariant.links in
    let nodes : h.nodes ≡ c.args.self.now.nodes = sym (view_nodes i.slots.items i.first i.len i.free i.spare h) ∙ ap (λ v. v.nodes) c.self.view_is in
    let live : is_live c.args.at h.nodes ≡ true = subst (λ t. is_live c.args.at t ≡ true) (sym nodes) c.requires.live in
    let here = subst (λ n. slice_get i.slots.items n ≡ Some c.release-slot.result) c.number-number.ensures c.release-slot.ensures.is in
    let t = slot_tells c.args.at i.slots.items h.nodes c.release-slot.result live h.linked here in
    subst IsSome (sym t.some_token.1) refl

pub invariant_of-self : goal.invariant_of-self
invariant_of-self c =
    let i = c.self.inside in
    let h = c.self.invariant.links in
    let nodes : h.nodes ≡ c.args.self.now.nodes = sym (view_nodes i.slots.items i.first i.len i.free i.spare h) ∙ ap (λ v. v.nodes) c.self.view_is in
    let live : is_live c.args.at h.nodes ≡ true = subst (λ t. is_live c.args.at t ≡ true) (sym nodes) c.requires.live in
    let p = take_moved i.slots.items i.first i.len i.free i.spare h c.args.at c.number-number.result c.release-slot.result live c.number-number.ensures c.release-slot.ensures.is
    c.release-slot.new.slots.items c.first_set-self-inside.result c.release-slot.ensures.slots c.first_set-self-inside.ensures in
    record {
      links = p.links;
      enough = (let a = p.links.all in let b = h.all in let d = c.self.invariant.enough in let k = live_long c.args.at h.nodes live in let m = h.len_is in omega (arith, a, b, d, k, m));
      none_open = c.self.invariant.none_open;
    }

pub returns-clause-token : goal.returns-clause-token
returns-clause-token c =
    let i = c.self.inside in
    let h = c.self.invariant.links in
    let nodes : h.nodes ≡ c.args.self.now.nodes = sym (view_nodes i.slots.items i.first i.len i.free i.spare h) ∙ ap (λ v. v.nodes) c.self.view_is in
    let live : is_live c.args.at h.nodes ≡ true = subst (λ t. is_live c.args.at t ≡ true) (sym nodes) c.requires.live in
    let here = subst (λ n. slice_get i.slots.items n ≡ Some c.release-slot.result) c.number-number.ensures c.release-slot.ensures.is in
    let t = slot_tells c.args.at i.slots.items h.nodes c.release-slot.result live h.linked here in
    ap (token_of c.args.at) (sym nodes) ∙ t.token ∙ c.unwrap.ensures

pub returns-clause-rest : goal.returns-clause-rest
returns-clause-rest c =
    let i = c.self.inside in
    let h = c.self.invariant.links in
    let nodes : h.nodes ≡ c.args.self.now.nodes = sym (view_nodes i.slots.items i.first i.len i.free i.spare h) ∙ ap (λ v. v.nodes) c.self.view_is in
    let live : is_live c.args.at h.nodes ≡ true = subst (λ t. is_live c.args.at t ≡ true) (sym nodes) c.requires.live in
    let p = take_moved i.slots.items i.first i.len i.free i.spare h c.args.at c.number-number.result c.release-slot.result live c.number-number.ensures c.release-slot.ensures.is
    c.release-slot.new.slots.items c.first_set-self-inside.result c.release-slot.ensures.slots c.first_set-self-inside.ensures in
    view_nodes c.release-slot.new.slots.items c.first_set-self-inside.result (i.len - 1) (Some c.number-number.result) (i.spare + 1) p.links ∙ p.nodes_are ∙ ap (erased c.args.at) nodes
