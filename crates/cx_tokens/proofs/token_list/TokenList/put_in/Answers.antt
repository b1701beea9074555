use Rattle.std.proofs.Common.{◌≡◌, ◌+◌, ◌-◌, ◌<◌, ◌∙◌, ap, ap₂, arith, length, refl, subst, sym, IfSome, IsTrue, true}
use Rattle.std.proofs.lemmas.Bool.{both_ways}
use Rattle.cx_tokens.specs.Nodes.{inserted, is_live, new_node}
use Rattle.cx_tokens.specs.Shapes.Links.{IsWithin, next_link}
use Rattle.cx_tokens.proofs.LinkLaws.{read_is}
use Rattle.cx_tokens.proofs.LinkSteps.{at_within, has_spare, inserted_live, next_within, put_fresh, put_moved, some_same, view_nodes}
use Rattle.cx_tokens.proofs.token_list.TokenList.put_in.Goals as goal

pub next_link-next-requires : goal.next_link-next-requires
next_link-next-requires c =
    let i = c.self.inside in
    let h = c.self.invariant.links in
    let nodes : h.nodes ≡ c.args.self.now.nodes = sym (view_nodes i.slots.items i.first i.len i.free i.spare h) ∙ ap (λ v. v.nodes) c.self.view_is in
    let live = subst (λ t. IfSome c.args.at (λ n. IsTrue (is_live n t))) (sym nodes) c.requires.at_live in
    let w = at_within i.slots.items h.nodes c.args.at h.linked live in
    subst (λ s. IsWithin s c.number_of-previous.result) (sym c.as_slice.ensures.value) (subst (IsWithin i.slots.items) (sym c.number_of-previous.ensures) w)

pub index-requires : goal.index-requires
index-requires c =
    let i = c.self.inside in
    let e : i.spare ≡ c.args.self.now.spare = ap (λ v. v.spare) c.self.view_is in
    let f = has_spare i.slots.items i.first i.len i.free i.spare c.self.invariant.links (omega (arith, e, c.requires.room)) in
    let o = i.slots.ok.0 in
    let same = some_same (sym f.1 ∙ c.unwrap-number.ensures) in
    omega (arith, f.2, o, same)

pub put_between-requires-clause-previous : goal.put_between-requires-clause-previous
put_between-requires-clause-previous c =
    let i = c.self.inside in
    let h = c.self.invariant.links in
    let nodes : h.nodes ≡ c.args.self.now.nodes = sym (view_nodes i.slots.items i.first i.len i.free i.spare h) ∙ ap (λ v. v.nodes) c.self.view_is in
    let live = subst (λ t. IfSome c.args.at (λ n. IsTrue (is_live n t))) (sym nodes) c.requires.at_live in
    subst (IsWithin i.slots.items) (sym c.number_of-previous.ensures) (at_within i.slots.items h.nodes c.args.at h.linked live)

pub put_between-requires-clause-number : goal.put_between-requires-clause-number
put_between-requires-clause-number c =
    let i = c.self.inside in
    let e : i.spare ≡ c.args.self.now.spare = ap (λ v. v.spare) c.self.view_is in
    let f = has_spare i.slots.items i.first i.len i.free i.spare c.self.invariant.links (omega (arith, e, c.requires.room)) in
    let same = some_same (sym f.1 ∙ c.unwrap-number.ensures) in
    subst (λ n. n < length i.slots.items) same f.2

pub put_between-requires-clause-next : goal.put_between-requires-clause-next
put_between-requires-clause-next c =
    let i = c.self.inside in
    let h = c.self.invariant.links in
    let nodes : h.nodes ≡ c.args.self.now.nodes = sym (view_nodes i.slots.items i.first i.len i.free i.spare h) ∙ ap (λ v. v.nodes) c.self.view_is in
    let live = subst (λ t. IfSome c.args.at (λ n. IsTrue (is_live n t))) (sym nodes) c.requires.at_live in
    let w = next_within i.slots.items i.first i.len i.free i.spare h c.args.at live in
    subst (IsWithin i.slots.items) (sym (c.next_link-next.ensures ∙ ap₂ (λ at s. next_link at i.first s) c.number_of-previous.ensures c.as_slice.ensures.value)) w

pub invariant_of-self : goal.invariant_of-self
invariant_of-self c =
    let i = c.self.inside in
    let h = c.self.invariant.links in
    let nodes : h.nodes ≡ c.args.self.now.nodes = sym (view_nodes i.slots.items i.first i.len i.free i.spare h) ∙ ap (λ v. v.nodes) c.self.view_is in
    let live = subst (λ t. IfSome c.args.at (λ n. IsTrue (is_live n t))) (sym nodes) c.requires.at_live in
    let e : i.spare ≡ c.args.self.now.spare = ap (λ v. v.spare) c.self.view_is in
    let f = has_spare i.slots.items i.first i.len i.free i.spare h (omega (arith, e, c.requires.room)) in
    let within = subst (λ n. n < length i.slots.items) (some_same (sym f.1 ∙ c.unwrap-number.ensures)) f.2 in
    let p = put_moved i.slots.items i.first i.len i.free i.spare h c.args.at (new_node c.unwrap-number.result c.args.token) refl c.unwrap-number.ensures live
    c.put_between.new.slots.items c.number_of-previous.result c.next_link-next.result c.first_set-self-inside.result c.index.result.now
    c.number_of-previous.ensures (c.next_link-next.ensures ∙ ap (next_link c.number_of-previous.result i.first) c.as_slice.ensures.value) c.put_between.ensures c.first_set-self-inside.ensures
    (read_is i.slots.items c.unwrap-number.result c.index.result.now within c.index.ensures) in
    record {
      links = p.links;
      enough = (let a = p.links.all in let b = h.all in let d = c.self.invariant.enough in let k = c.requires.room in let m = ap (λ v. v.spare) c.self.view_is in omega (arith, a, b, d, k, m));
      none_open = c.self.invariant.none_open;
    }

pub returns-clause-fresh : goal.returns-clause-fresh
returns-clause-fresh c = λ l.
    let i = c.self.inside in
    let h = c.self.invariant.links in
    let nodes : h.nodes ≡ c.args.self.now.nodes = sym (view_nodes i.slots.items i.first i.len i.free i.spare h) ∙ ap (λ v. v.nodes) c.self.view_is in
    let dead = put_fresh i.slots.items i.first i.len i.free i.spare h c.unwrap-number.result c.unwrap-number.ensures in
    both_ways (is_live c.unwrap-number.result h.nodes) dead (subst (λ n. is_live n h.nodes ≡ true) c.of.ensures (subst (λ t. is_live c.of.result t ≡ true) (sym nodes) l))

pub returns-clause-nodes : goal.returns-clause-nodes
returns-clause-nodes c =
    let i = c.self.inside in
    let h = c.self.invariant.links in
    let nodes : h.nodes ≡ c.args.self.now.nodes = sym (view_nodes i.slots.items i.first i.len i.free i.spare h) ∙ ap (λ v. v.nodes) c.self.view_is in
    let live = subst (λ t. IfSome c.args.at (λ n. IsTrue (is_live n t))) (sym nodes) c.requires.at_live in
    let e : i.spare ≡ c.args.self.now.spare = ap (λ v. v.spare) c.self.view_is in
    let f = has_spare i.slots.items i.first i.len i.free i.spare h (omega (arith, e, c.requires.room)) in
    let within = subst (λ n. n < length i.slots.items) (some_same (sym f.1 ∙ c.unwrap-number.ensures)) f.2 in
    let p = put_moved i.slots.items i.first i.len i.free i.spare h c.args.at (new_node c.unwrap-number.result c.args.token) refl c.unwrap-number.ensures live
    c.put_between.new.slots.items c.number_of-previous.result c.next_link-next.result c.first_set-self-inside.result c.index.result.now
    c.number_of-previous.ensures (c.next_link-next.ensures ∙ ap (next_link c.number_of-previous.result i.first) c.as_slice.ensures.value) c.put_between.ensures c.first_set-self-inside.ensures
    (read_is i.slots.items c.unwrap-number.result c.index.result.now within c.index.ensures) in
    view_nodes c.put_between.new.slots.items c.first_set-self-inside.result (i.len + 1) c.index.result.now.next (i.spare - 1) p.links ∙ p.nodes_are
    ∙ ap₂ (λ f t. inserted c.args.at (new_node f c.args.token) t) (sym c.of.ensures) nodes

pub returns-clause-live : goal.returns-clause-live
returns-clause-live c =
    let i = c.self.inside in
    let h = c.self.invariant.links in
    let nodes : h.nodes ≡ c.args.self.now.nodes = sym (view_nodes i.slots.items i.first i.len i.free i.spare h) ∙ ap (λ v. v.nodes) c.self.view_is in
    let live = subst (λ t. IfSome c.args.at (λ n. IsTrue (is_live n t))) (sym nodes) c.requires.at_live in
    let e : i.spare ≡ c.args.self.now.spare = ap (λ v. v.spare) c.self.view_is in
    let f = has_spare i.slots.items i.first i.len i.free i.spare h (omega (arith, e, c.requires.room)) in
    let within = subst (λ n. n < length i.slots.items) (some_same (sym f.1 ∙ c.unwrap-number.ensures)) f.2 in
    let p = put_moved i.slots.items i.first i.len i.free i.spare h c.args.at (new_node c.unwrap-number.result c.args.token) refl c.unwrap-number.ensures live
    c.put_between.new.slots.items c.number_of-previous.result c.next_link-next.result c.first_set-self-inside.result c.index.result.now
    c.number_of-previous.ensures (c.next_link-next.ensures ∙ ap (next_link c.number_of-previous.result i.first) c.as_slice.ensures.value) c.put_between.ensures c.first_set-self-inside.ensures
    (read_is i.slots.items c.unwrap-number.result c.index.result.now within c.index.ensures) in
    let e = view_nodes c.put_between.new.slots.items c.first_set-self-inside.result (i.len + 1) c.index.result.now.next (i.spare - 1) p.links ∙ p.nodes_are
    ∙ ap₂ (λ f t. inserted c.args.at (new_node f c.args.token) t) (sym c.of.ensures) nodes in
    subst (λ t. is_live c.of.result t ≡ true) (sym e) (inserted_live c.args.at (new_node c.of.result c.args.token) c.args.self.now.nodes)
