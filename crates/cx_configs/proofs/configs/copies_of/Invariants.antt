use Rattle.std.proofs.Common.{◌≡◌, ◌++◌, drop}
use Rattle.cx_configs.proofs.configs.copies_of.Given as goal

abbrev pub invariant-loop-define : goal.invariant-loop-define
invariant-loop-define l = l.defines ++ drop l.define-index l.library ≡ l.library
