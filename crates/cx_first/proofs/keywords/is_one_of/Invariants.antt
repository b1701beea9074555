use Rattle.std.proofs.Common.{◌≡◌, drop}
use Rattle.cx_first.specs.Terminals.{is_one_of}
use Rattle.cx_first.proofs.keywords.is_one_of.Given as goal

abbrev pub invariant-loop-other : goal.invariant-loop-other
invariant-loop-other l = is_one_of l.word l.table ≡ is_one_of l.word (drop l.other-index l.table)
