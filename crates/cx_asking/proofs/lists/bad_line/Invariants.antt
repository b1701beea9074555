use Rattle.std.proofs.Common.{◌≡◌, ◌+◌, ◌≤◌, length}
use Rattle.cx_lex.specs.Lines.{place_limit}
use Rattle.cx_asking.specs.Lists.{bad_line, lines}
use Rattle.cx_asking.proofs.lists.bad_line.Given as goal

abbrev pub invariant-loop-line : goal.invariant-loop-line
invariant-loop-line l = record {
  rest : bad_line l.number l.line-iterator ≡ bad_line 1 (lines l.fn.bytes);
  few : l.number + length l.line-iterator ≤ place_limit;
}
