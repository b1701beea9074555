use Rattle.std.proofs.Common.{IfSome, IsTrue}
use Rattle.cx_tokens.specs.Nodes.{is_live}
use Rattle.cx_tokens.proofs.tests.shown.Given as goal

abbrev pub invariant-loop : goal.invariant-loop
invariant-loop l = IfSome l.at (λ n. IsTrue (is_live n l.list.nodes))
