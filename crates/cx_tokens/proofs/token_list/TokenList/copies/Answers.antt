use Rattle.std.proofs.Common.{◌≡◌, ◌<◌, ◌∙◌, ◌++◌, ap, length, subst, sym, IfSome, IsTrue, Some, true}
use Rattle.cx_tokens.specs.Nodes.{is_live, nodes_from, token_of, tokens}
use Rattle.cx_tokens.specs.Shapes.Links.{rest_from}
use Rattle.cx_tokens.proofs.LinkRuns.{copies_step, rest_first, rest_shorter}
use Rattle.cx_tokens.proofs.token_list.TokenList.copies.Goals as goal

pub loop-at-init : goal.loop-at-init
loop-at-init c = (
  ap (λ t. t ++ tokens (rest_from c.first-at.result c.args.self.now.nodes)) c.new-made.ensures.items ∙ ap (λ o. tokens (rest_from o c.args.self.now.nodes)) c.first-at.ensures.node ∙ ap tokens (rest_first c.args.self.now.nodes),
  c.first-at.ensures.live,
)

pub loop-at-smaller : goal.loop-at-smaller
loop-at-smaller c =
    let live : is_live c.in-Some.node c.args.self.now.nodes ≡ true = (subst (λ o. IfSome o (λ n. IsTrue (is_live n c.args.self.now.nodes))) c.in-Some.is c.loop-at.invariant.1) in
    subst (λ o. length (rest_from c.next-at.result c.args.self.now.nodes) < length (rest_from o c.args.self.now.nodes)) (sym c.in-Some.is)
    (subst (λ o. length (rest_from o c.args.self.now.nodes) < length (nodes_from c.in-Some.node c.args.self.now.nodes)) (sym c.next-at.ensures.node)
    (rest_shorter c.in-Some.node c.args.self.now.nodes c.are_numbered.ensures.distinct live))

pub loop-at-preserved : goal.loop-at-preserved
loop-at-preserved c =
    let live : is_live c.in-Some.node c.args.self.now.nodes ≡ true = (subst (λ o. IfSome o (λ n. IsTrue (is_live n c.args.self.now.nodes))) c.in-Some.is c.loop-at.invariant.1) in
    let so_far : c.loop-at.made.items ++ tokens (nodes_from c.in-Some.node c.args.self.now.nodes) ≡ tokens c.args.self.now.nodes = ap (λ o. c.loop-at.made.items ++ tokens (rest_from o c.args.self.now.nodes)) (sym c.in-Some.is) ∙ c.loop-at.invariant.0 in
    let is : token_of c.in-Some.node c.args.self.now.nodes ≡ Some c.in_ok-copy.field-0 = c.token.ensures ∙ ap Some (sym c.in_ok-copy.ensures) in (
      ap (λ o. c.push.new.self.items ++ tokens (rest_from o c.args.self.now.nodes)) c.next-at.ensures.node
          ∙ copies_step c.loop-at.made.items c.push.new.self.items c.in-Some.node c.args.self.now.nodes c.in_ok-copy.field-0 c.are_numbered.ensures.distinct live is so_far c.in_ok-push.ensures.items,
      c.next-at.ensures.live,
    )
