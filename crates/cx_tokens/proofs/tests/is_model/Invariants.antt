use Rattle.std.proofs.Common.{IfSome, IsTrue}
use Rattle.cx_tokens.specs.Nodes.{is_live}
use Rattle.cx_tokens.proofs.tests.is_model.Given as goal

abbrev pub invariant-loop-column : goal.invariant-loop-column
invariant-loop-column l = IfSome l.at (λ n. IsTrue (is_live n l.list.nodes))
