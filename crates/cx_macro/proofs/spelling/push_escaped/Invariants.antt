use Rattle.std.proofs.Common.{◌≡◌, ◌++◌, drop}
use Rattle.cx_macro.specs.Replacement as meaning
use Rattle.cx_macro.proofs.spelling.push_escaped.Given as goal

abbrev pub invariant-loop-byte : goal.invariant-loop-byte
invariant-loop-byte l = l.out ++ meaning.escaped (drop l.byte-index l.text) ≡ l.initial.out ++ meaning.escaped l.text
