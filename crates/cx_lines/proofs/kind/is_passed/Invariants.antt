use Rattle.std.proofs.Common.{◌≡◌, drop}
use Rattle.std.specs.Prelude.{bytes_eq}
use Rattle.std.specs.List.{list_any}
use Rattle.cx_lines.specs.Kinds.{passed_words}
use Rattle.cx_lines.proofs.kind.is_passed.Given as goal

abbrev pub invariant-loop-passed : goal.invariant-loop-passed
invariant-loop-passed l = list_any (λ p. bytes_eq l.word p.now) (drop l.passed-index l.passed-items) ≡ list_any (bytes_eq l.word) passed_words
