use Rattle.std.proofs.Common.{◌≡◌, ◌++◌, drop}
use Rattle.cx_macro.specs.Replacement as meaning
use Rattle.cx_macro.proofs.spelling.push_all_after.Given as goal

abbrev pub invariant-loop-token : goal.invariant-loop-token
invariant-loop-token l = l.out ++ meaning.characters_after (drop l.token-index l.tokens) ≡ l.initial.out ++ meaning.characters_after l.tokens
