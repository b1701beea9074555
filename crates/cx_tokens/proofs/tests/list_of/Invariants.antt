use Rattle.std.proofs.Common.{IfSome, IsTrue}
use Rattle.cx_tokens.specs.Nodes.{is_live}
use Rattle.cx_tokens.proofs.tests.list_of.Given as goal

abbrev pub invariant-loop-word : goal.invariant-loop-word
invariant-loop-word l =
    (goal.iterator-loop-word).can_next l.word-iterator ×
    (goal.iterator-loop-word).is_finite l.word-iterator ×
    IfSome l.last (λ n. IsTrue (is_live n l.list.nodes))
