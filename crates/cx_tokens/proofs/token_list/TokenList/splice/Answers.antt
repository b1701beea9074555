use Rattle.std.proofs.Common.{◌≡◌, ◌∙◌, ap, arith, length, subst, sym, true}
use Rattle.std.proofs.lemmas.List.{length-map}
use Rattle.cx_tokens.specs.Nodes.{AreNew, TokenNode, is_live, spliced, new_nodes}
use Rattle.cx_tokens.specs.Shapes.Links.{PutsAfter}
use Rattle.cx_tokens.proofs.LinkRuns.{is_mid}
use Rattle.cx_tokens.proofs.LinkSteps.{view_nodes}
use Rattle.cx_tokens.proofs.token_list.TokenList.splice.Goals as goal

pub put_all-requires-clause-room : goal.put_all-requires-clause-room
put_all-requires-clause-room c =
    let i = c.by.inside in
    let h = c.by.invariant.links in
    let nodes : h.nodes ≡ c.args.by.now.nodes = sym (view_nodes i.slots.items i.first i.len i.free i.spare h) ∙ ap (λ v. v.nodes) c.by.view_is in
    let a = c.in_ok-copies.copies.ok.0 in
    let b = ap length c.in_ok-copies.ensures ∙ length-map c.args.by.now.nodes (λ (x : TokenNode). x.token) in
    let d = h.len_is ∙ ap length nodes in
    let e = c.in_ok-reserve.ensures.room in
    omega (arith, a, b, d, e)

pub put_all-requires-clause-live : goal.put_all-requires-clause-live
put_all-requires-clause-live c = subst (λ t. is_live c.args.to t ≡ true) (sym c.in_ok-reserve.ensures.nodes) c.requires.to_live

pub erase_run-requires-clause-from_live : goal.erase_run-requires-clause-from_live
erase_run-requires-clause-from_live c =
    let old = c.args.self.now.nodes in
    let put = subst (λ t. PutsAfter c.args.to c.in_ok-copies.copies.items t c.put_all.new.self.nodes) c.in_ok-reserve.ensures.nodes c.put_all.ensures in
    let m = is_mid c.args.from c.args.to old c.put_all.new.self.nodes (new_nodes put.0 c.in_ok-copies.copies.items) c.are_numbered.ensures.distinct c.requires.from_live c.requires.to_live c.requires.order put.2 in
    m.live

pub erase_run-requires-clause-order : goal.erase_run-requires-clause-order
erase_run-requires-clause-order c =
    let old = c.args.self.now.nodes in
    let put = subst (λ t. PutsAfter c.args.to c.in_ok-copies.copies.items t c.put_all.new.self.nodes) c.in_ok-reserve.ensures.nodes c.put_all.ensures in
    let m = is_mid c.args.from c.args.to old c.put_all.new.self.nodes (new_nodes put.0 c.in_ok-copies.copies.items) c.are_numbered.ensures.distinct c.requires.from_live c.requires.to_live c.requires.order put.2 in
    m.order

pub returns-clause-ok : goal.returns-clause-ok
returns-clause-ok c =
    let old = c.args.self.now.nodes in
    let put = subst (λ t. PutsAfter c.args.to c.in_ok-copies.copies.items t c.put_all.new.self.nodes) c.in_ok-reserve.ensures.nodes c.put_all.ensures in
    let m = is_mid c.args.from c.args.to old c.put_all.new.self.nodes (new_nodes put.0 c.in_ok-copies.copies.items) c.are_numbered.ensures.distinct c.requires.from_live c.requires.to_live c.requires.order put.2 in
    let e = c.in_ok-copies.ensures in
    (put.0, subst (λ t. AreNew put.0 t old) e put.1, c.erase_run.ensures ∙ m.spliced_is ∙ ap (λ t. spliced c.args.from c.args.to (new_nodes put.0 t) old) e)
