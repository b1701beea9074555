use Rattle.std.proofs.Common.{◌≡◌, ◌≤◌, ◌+◌, ◌-◌, length, option_map}
use Rattle.cx_first.specs.Descent.{ends_after}
use Rattle.cx_first.proofs.statements.length_of.Given as goal

abbrev pub invariant-loop-token : goal.invariant-loop-token
invariant-loop-token l = record {
  within : l.count ≤ l.limit;
  counted : l.count + length l.rest ≡ length l.tokens;
  going : ends_after l.limit l.tokens ≡ option_map (λ n. l.count + n) (ends_after (l.limit - l.count) l.rest);
}

abbrev pub decreases-loop-token : goal.decreases-loop-token
decreases-loop-token l = length l.rest
