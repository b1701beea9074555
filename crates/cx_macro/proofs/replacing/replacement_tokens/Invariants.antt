use Rattle.std.proofs.Common.{◌≡◌, ◌++◌, length, map}
use Rattle.cx_macro.specs.Replacement.{replacement_token}
use Rattle.cx_macro.proofs.replacing.replacement_tokens.Given as goal

abbrev pub invariant-loop-token : goal.invariant-loop-token
invariant-loop-token l = record {
  names : l.unions ≡ l.hide;
  tokens : l.replacement.items ++ map (replacement_token l.name l.hide) l.left ≡ map (replacement_token l.name l.hide) l.initial.left;
}

abbrev pub decreases-loop-token : goal.decreases-loop-token
decreases-loop-token l = length l.left
