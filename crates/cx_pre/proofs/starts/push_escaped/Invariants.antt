use Rattle.std.proofs.Common.{◌≡◌, ◌++◌, drop}
use Rattle.cx_pre.specs.Starts.{escaped}
use Rattle.cx_pre.proofs.starts.push_escaped.Given as goal

abbrev pub invariant-loop-byte : goal.invariant-loop-byte
invariant-loop-byte l = l.text ++ escaped (drop l.byte-index l.path) ≡ l.initial.text ++ escaped l.path
