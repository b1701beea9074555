use Rattle.std.proofs.Common.{◌≡◌, ℕ, ◌+◌, ◌-◌, ◌<◌, ◌∙◌, Option, None, Some, ap, arith, subst, sym}
use Rattle.std.specs.Option.{SomeIff}
use Rattle.cx_tokens.specs.Shapes.Links.{IsAdded, IsLinks}
use Rattle.cx_tokens.proofs.LinkSteps.{added_links, view_nodes}
use Rattle.cx_tokens.proofs.token_list.TokenList.reserve.Goals as goal

grown_is : (o : Option ℕ) (x y : ℕ) (P : Type 0) → SomeIff o P y → o ≡ Some x → x ≡ y
grown_is None x y P h e = absurd cc
grown_is (Some z) x y P h e = same e ∙ h.1
  where
    same : {a b : ℕ} → Some a ≡ Some b → b ≡ a
    same e = cc

pub invariant_of-self-2 : goal.invariant_of-self-2
invariant_of-self-2 c =
    let i = c.self.inside in
    let e : i.spare + (c.args.n - i.spare) ≡ c.args.n = omega (arith, c.if-n-self.false) in
    let a = subst (λ s. IsAdded s i.free c.add_frees-self-inside.new.slots.items c.add_frees-self-inside.result (c.args.n - i.spare)) c.in_ok-reserve-2.ensures.items c.add_frees-self-inside.ensures in
    let p = added_links i.slots.items c.add_frees-self-inside.new.slots.items i.free c.add_frees-self-inside.result (c.args.n - i.spare) a i.first i.len i.spare c.self.invariant.links in
    record {
      links = subst (IsLinks c.add_frees-self-inside.new.slots.items i.first i.len c.add_frees-self-inside.result) e p.links;
      enough = (let a = p.links.all in let b = c.in_ok-reserve.ensures.ok in let d = grown_is c.checked_add.result c.in_ok-grown.grown (i.len + i.spare + (c.args.n - i.spare)) (i.len + i.spare + (c.args.n - i.spare) < 4294967296) c.checked_add.ensures c.in_ok-grown.ensures.ok_part in omega (arith, a, b, d));
      none_open = c.in_ok-reserve.ensures.items ∙ c.self.invariant.none_open;
    }

pub returns-clause-nodes : goal.returns-clause-nodes
returns-clause-nodes c =
    let i = c.self.inside in
    let a = subst (λ s. IsAdded s i.free c.add_frees-self-inside.new.slots.items c.add_frees-self-inside.result (c.args.n - i.spare)) c.in_ok-reserve-2.ensures.items c.add_frees-self-inside.ensures in
    let p = added_links i.slots.items c.add_frees-self-inside.new.slots.items i.free c.add_frees-self-inside.result (c.args.n - i.spare) a i.first i.len i.spare c.self.invariant.links in
    view_nodes c.add_frees-self-inside.new.slots.items i.first i.len c.add_frees-self-inside.result (i.spare + (c.args.n - i.spare)) p.links
    ∙ p.nodes_are ∙ sym (view_nodes i.slots.items i.first i.len i.free i.spare c.self.invariant.links) ∙ ap (λ v. v.nodes) c.self.view_is
