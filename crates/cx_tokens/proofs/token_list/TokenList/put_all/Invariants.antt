use Rattle.std.proofs.Common.{◌≤◌, vec_len}
use Rattle.cx_tokens.proofs.LinkRuns.{IsPutting}
use Rattle.cx_tokens.proofs.token_list.TokenList.put_all.Given as goal

abbrev pub invariant-loop-token : goal.invariant-loop-token
invariant-loop-token l = IsPutting l.at l.initial.left.items l.left.items l.initial.self.nodes l.self.nodes × (vec_len l.left ≤ l.self.spare)

abbrev pub decreases-loop-token : goal.decreases-loop-token
decreases-loop-token l = vec_len l.left
