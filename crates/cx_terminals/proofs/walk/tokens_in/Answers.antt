use Rattle.std.proofs.Common.{◌≡◌, ◌<◌, ◌∙◌, ◌++◌, ap, length, map, subst, sym, IfSome, IsTrue, true}
use Rattle.cx_tokens.specs.Nodes.{is_live, nodes_from, tokens}
use Rattle.cx_tokens.specs.Shapes.Links.{rest_from}
use Rattle.cx_tokens.proofs.LinkRuns.{copies_step, rest_first, rest_shorter}
use Rattle.cx_terminals.proofs.ShownLaws.{shown_token}
use Rattle.cx_terminals.proofs.walk.tokens_in.Goals as goal

pub loop-at-init : goal.loop-at-init
loop-at-init c = (
  ap (λ ts. map (λ t. t.now) ts ++ tokens (rest_from c.first-at.result c.args.list.now.nodes)) c.new-found.ensures.items
      ∙ ap (λ o. tokens (rest_from o c.args.list.now.nodes)) c.first-at.ensures.node ∙ ap tokens (rest_first c.args.list.now.nodes),
  c.first-at.ensures.live,
)

pub loop-at-smaller : goal.loop-at-smaller
loop-at-smaller c =
    let live : is_live c.in-Some.node c.args.list.now.nodes ≡ true = (subst (λ o. IfSome o (λ n. IsTrue (is_live n c.args.list.now.nodes))) c.in-Some.is c.loop-at.invariant.1) in
    subst (λ o. length (rest_from c.next-at.result c.args.list.now.nodes) < length (rest_from o c.args.list.now.nodes)) (sym c.in-Some.is)
    (subst (λ o. length (rest_from o c.args.list.now.nodes) < length (nodes_from c.in-Some.node c.args.list.now.nodes)) (sym c.next-at.ensures.node)
    (rest_shorter c.in-Some.node c.args.list.now.nodes c.are_numbered.ensures.distinct live))

pub loop-at-preserved : goal.loop-at-preserved
loop-at-preserved c =
    let live : is_live c.in-Some.node c.args.list.now.nodes ≡ true = (subst (λ o. IfSome o (λ n. IsTrue (is_live n c.args.list.now.nodes))) c.in-Some.is c.loop-at.invariant.1) in
    let so_far : map (λ t. t.now) c.loop-at.found.items ++ tokens (nodes_from c.in-Some.node c.args.list.now.nodes) ≡ tokens c.args.list.now.nodes =
    ap (λ o. map (λ t. t.now) c.loop-at.found.items ++ tokens (rest_from o c.args.list.now.nodes)) (sym c.in-Some.is) ∙ c.loop-at.invariant.0 in (
      ap (λ o. map (λ t. t.now) c.push.new.self.items ++ tokens (rest_from o c.args.list.now.nodes)) c.next-at.ensures.node
          ∙ copies_step (map (λ t. t.now) c.loop-at.found.items) (map (λ t. t.now) c.push.new.self.items) c.in-Some.node c.args.list.now.nodes
          c.token.result.now c.are_numbered.ensures.distinct live c.token.ensures so_far
          (ap (map (λ t. t.now)) c.in_ok-push.ensures.items ∙ shown_token c.loop-at.found.items c.token.result),
      c.next-at.ensures.live,
    )
