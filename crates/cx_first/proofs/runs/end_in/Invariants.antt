use Rattle.std.proofs.Common.{◌≡◌}
use Rattle.cx_first.specs.Tree.{source_of}
use Rattle.cx_first.specs.Runs.{Reaches}
use Rattle.cx_first.proofs.runs.end_in.Given as goal

abbrev pub invariant-loop-statement : goal.invariant-loop-statement
invariant-loop-statement l = record {
  items : l.statement-items ≡ l.text.statements;
  number : l.number ≡ l.statement-index;
  reaches : Reaches (source_of l.text) (l.number, l.memory.items);
}
