use Rattle.std.proofs.Common.{◌≡◌, drop}
use Rattle.std.specs.Prelude.{bytes_eq}
use Rattle.std.specs.List.{list_any}
use Rattle.cx_tokens.specs.Digraphs.{digraphs}
use Rattle.cx_tokens.proofs.digraph.is_digraph.Given as goal

abbrev pub invariant-loop-spelling : goal.invariant-loop-spelling
invariant-loop-spelling l = list_any (λ p. bytes_eq p.0.now l.spelled) (drop l.spelling-index l.spelling-items) ≡ list_any (λ p. bytes_eq p.0 l.spelled) digraphs
