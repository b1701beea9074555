use Rattle.std.proofs.Common.{arith}
use Rattle.cx_tokens.proofs.LinkRuns.{putting_none, putting_one, still_live}
use Rattle.cx_tokens.proofs.token_list.TokenList.put_all.Goals as goal

pub loop-token-init : goal.loop-token-init
loop-token-init c = (putting_none c.args.at c.args.tokens.items c.args.self.now.nodes c.requires.live, c.requires.room)

pub put_in-requires-clause-at_live : goal.put_in-requires-clause-at_live
put_in-requires-clause-at_live c = still_live c.args.at c.args.tokens.items c.loop-token.left.items c.args.self.now.nodes c.loop-token.self.nodes c.loop-token.invariant.0 c.requires.live

pub loop-token-preserved : goal.loop-token-preserved
loop-token-preserved c = (
  putting_one c.args.at c.put_in.result c.args.tokens.items c.pop.new.self.items c.loop-token.left.items c.args.self.now.nodes c.loop-token.self.nodes c.put_in.new.self.nodes c.in-Some.token
      c.loop-token.invariant.0 c.in-Some.ensures.items c.requires.live c.are_numbered.ensures.distinct c.put_in.ensures.fresh c.put_in.ensures.nodes,
  (let a = c.in-Some.ensures.len in let b = c.put_in.ensures.spare in let d = c.loop-token.invariant.1 in omega arith),
)
