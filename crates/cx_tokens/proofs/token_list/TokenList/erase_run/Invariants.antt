use Rattle.std.proofs.Common.{length}
use Rattle.cx_tokens.proofs.LinkRuns.{IsErasing}
use Rattle.cx_tokens.proofs.token_list.TokenList.erase_run.Given as goal

abbrev pub invariant-loop-at : goal.invariant-loop-at
invariant-loop-at l = IsErasing l.fn.from l.to l.at l.initial.self.nodes l.self.nodes

abbrev pub decreases-loop-at : goal.decreases-loop-at
decreases-loop-at l = length l.self.nodes
