use Rattle.std.proofs.Common.{IsTrue}
use Rattle.cx_tokens.specs.Nodes.{nodes_from, is_live}
use Rattle.cx_tokens.proofs.tests.run_at.Given as goal

abbrev pub invariant-loop : goal.invariant-loop
invariant-loop l = IsTrue (is_live l.from l.list.nodes) × IsTrue (is_live l.to l.list.nodes) × IsTrue (is_live l.to (nodes_from l.from l.list.nodes))
