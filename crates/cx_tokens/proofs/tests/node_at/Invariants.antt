use Rattle.std.proofs.Common.{IsTrue}
use Rattle.cx_tokens.specs.Nodes.{is_live}
use Rattle.cx_tokens.proofs.tests.node_at.Given as goal

abbrev pub invariant-loop : goal.invariant-loop
invariant-loop l = IsTrue (is_live l.node l.list.nodes)
