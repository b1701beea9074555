use Rattle.std.proofs.Common.{◌≡◌, drop}
use Rattle.cx_pre.specs.Starts.{with_names}
use Rattle.cx_pre.proofs.starts.define_names.Given as goal

abbrev pub invariant-loop-name : goal.invariant-loop-name
invariant-loop-name l = with_names (drop l.name-index l.names) l.macros ≡ with_names l.names l.initial.macros
