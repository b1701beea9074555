use Rattle.std.proofs.Common.{◌≡◌, ◌++◌, take}
use Rattle.cx_tokens.proofs.simplify.push_each.Given as goal

abbrev pub invariant-loop-part : goal.invariant-loop-part
invariant-loop-part l = l.parts ≡ l.initial.parts ++ take l.part-index l.more
