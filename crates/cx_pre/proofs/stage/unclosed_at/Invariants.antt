use Rattle.std.proofs.Common.{◌≡◌, drop}
use Rattle.cx_pre.specs.Stages.{unclosed_at}
use Rattle.cx_pre.proofs.stage.unclosed_at.Given as goal

abbrev pub invariant-loop-token : goal.invariant-loop-token
invariant-loop-token l = unclosed_at (drop l.token-index l.tokens) ≡ unclosed_at l.tokens
