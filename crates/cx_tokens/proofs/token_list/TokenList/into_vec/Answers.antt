use Rattle.cx_tokens.proofs.WholeLaws.{take_next, taken_first}
use Rattle.cx_tokens.specs.Nodes.{tokens}
use Rattle.std.proofs.Common.{◌∙◌, sym}
use Rattle.cx_tokens.proofs.token_list.TokenList.into_vec.Goals as goal

pub loop-node-smaller : goal.loop-node-smaller
loop-node-smaller c =
    (taken_first c.loop-node.list.nodes c.erase.new.self.nodes c.in-Some.node c.erase.result (sym c.in-Some.is ∙ c.first.ensures.node) c.erase.ensures.token c.erase.ensures.rest).1

pub loop-node-preserved : goal.loop-node-preserved
loop-node-preserved c =
    take_next c.loop-node.taken.items c.push.new.self.items c.loop-node.list.nodes c.erase.new.self.nodes (tokens c.args.self.nodes) c.in-Some.node c.erase.result
    (sym c.in-Some.is ∙ c.first.ensures.node) c.erase.ensures.token c.erase.ensures.rest c.in_ok-push.ensures.items c.loop-node.invariant
